pub mod Decisions
pub mod GateTable
pub mod GateWords
pub mod WaitingWords
