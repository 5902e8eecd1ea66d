pub mod BookFacts
pub mod LimitLemmas
pub mod LimitTables
