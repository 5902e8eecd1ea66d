pub mod Taken
pub mod Counting
