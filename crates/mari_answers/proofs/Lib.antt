pub mod Asking
pub mod Causes
pub mod Limits
pub mod Naming
pub mod Reporting
