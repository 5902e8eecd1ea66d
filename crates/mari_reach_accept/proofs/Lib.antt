pub mod Names
pub mod Free
pub mod Days
pub mod Texts
pub mod TreeFits
pub mod Fits
