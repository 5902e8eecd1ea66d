pub mod Name
pub mod Queued
pub mod Pooled
pub mod Taking
