pub mod Split
pub mod Lines
pub mod Days
pub mod Steps
