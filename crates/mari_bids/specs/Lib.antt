pub mod BidChecks
pub mod Bids
pub mod Columns
pub mod SoFar
