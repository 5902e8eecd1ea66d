pub mod Lists
pub mod Digits
mod Appended
