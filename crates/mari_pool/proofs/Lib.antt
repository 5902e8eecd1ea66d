pub mod Rooms
pub mod Orders
pub mod Queues
pub mod Keeps
pub mod Returns
pub mod Turns
