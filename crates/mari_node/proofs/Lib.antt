pub mod Decided
pub mod Findings
pub mod Gated
pub mod Paid
pub mod Plain
pub mod Running
