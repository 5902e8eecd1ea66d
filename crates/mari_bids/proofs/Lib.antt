pub mod BidLemmas
pub mod BookFacts
