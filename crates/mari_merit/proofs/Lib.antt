pub mod Rungs
pub mod Sorted
pub mod Filling
pub mod Clears
mod MeritOrder
