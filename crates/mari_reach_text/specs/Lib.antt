pub mod Numbers
pub mod Claims
pub mod Order
pub mod Texts
