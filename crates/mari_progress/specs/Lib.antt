pub mod Reported
pub mod Prices
pub mod After
pub mod Money
pub mod Totals
pub mod Keeps
pub mod Runs
pub mod Progress
