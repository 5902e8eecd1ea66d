pub mod BookFacts
pub mod EntryLemmas
pub mod GateLemmas
pub mod GroupLemmas
pub mod LinkEq
pub mod SaidLemmas
