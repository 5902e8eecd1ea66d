pub mod Merit
pub mod Ladder
