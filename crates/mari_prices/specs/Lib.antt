pub mod Spread
pub mod Tightest
pub mod Ends
pub mod Answers
pub mod Firsts
pub mod Published
