pub mod Starts
pub mod Drains
pub mod Merit
pub mod Warm
