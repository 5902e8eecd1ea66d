mod Checking
mod Fetched
mod Passing
pub mod Facts
