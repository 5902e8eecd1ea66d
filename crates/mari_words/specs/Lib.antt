pub mod Asked
pub mod Given
pub mod Line
pub mod Seen
pub mod Words
