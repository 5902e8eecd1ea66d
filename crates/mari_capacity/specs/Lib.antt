pub mod Raised
pub mod Rise
pub mod Worth
pub mod Lines
pub mod Values
pub mod Ends
pub mod Streams
pub mod Taking
