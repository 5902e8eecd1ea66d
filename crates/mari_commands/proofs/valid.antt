-- That a printed day has no fault, block by block.
pub mod Blocks
pub mod Days
