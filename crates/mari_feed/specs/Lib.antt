pub mod Values
pub mod Ranges
pub mod Reading
pub mod Texts
pub mod Objects
pub mod Plain
pub mod Streams
