pub mod State
pub mod Leaf
pub mod Tree
pub mod Tables
pub mod Values
pub mod Places
pub mod Twins
pub mod Ladders
