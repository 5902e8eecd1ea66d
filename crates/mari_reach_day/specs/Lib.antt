pub mod Reach
pub mod Lines
pub mod Ranges
pub mod Days
pub mod Steps
