pub mod Islands
pub mod Part
pub mod Lists
pub mod Cleared
pub mod Checked
pub mod Uniting
pub mod Placing
