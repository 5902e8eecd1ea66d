pub mod Blocks
pub mod Progressing
pub mod Enough
pub mod Keeping
