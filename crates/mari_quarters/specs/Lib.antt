pub mod Quarters
pub mod Stages
