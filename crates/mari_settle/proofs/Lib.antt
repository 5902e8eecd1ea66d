pub mod Money
pub mod Flows
pub mod Lists
pub mod Amounts
pub mod Laws
pub mod Books
pub mod Sizes
pub mod Bounds
