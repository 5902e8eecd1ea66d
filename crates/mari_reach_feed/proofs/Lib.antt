pub mod Plainly
pub mod Fitting
pub mod Feeding
