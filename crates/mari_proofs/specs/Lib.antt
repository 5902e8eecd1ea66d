pub mod NetInjections
pub mod Conflicts
pub mod Leaves
pub mod Places
pub mod Steps
pub mod Tables
