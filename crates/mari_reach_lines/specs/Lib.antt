pub mod Spelling
pub mod Ranges
