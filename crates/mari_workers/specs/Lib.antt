pub mod Alone
pub mod Refine
pub mod Worked
pub mod Together
pub mod Cutting
pub mod Closed
pub mod Root
