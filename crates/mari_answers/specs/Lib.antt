pub mod Checks
pub mod Lines
pub mod Refusals
pub mod Reports
pub mod Status
pub mod Texts
