pub mod Faults
pub mod Shown
pub mod Day
pub mod Tested
pub mod Verdict
pub mod Parts
pub mod Streams
pub mod SoFar
