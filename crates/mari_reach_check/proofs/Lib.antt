pub mod Trees
pub mod Examining
pub mod Showing
pub mod Days
pub mod Keeping
pub mod Verdicts
pub mod Parts
pub mod Streaming
