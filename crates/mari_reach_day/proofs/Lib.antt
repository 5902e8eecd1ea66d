pub mod Blocks
pub mod Counts
pub mod Progressing
pub mod Keeping
pub mod Texts
