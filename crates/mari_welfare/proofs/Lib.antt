pub mod Open
pub mod Balance
