pub mod Forms
pub mod Coming
pub mod Streams
