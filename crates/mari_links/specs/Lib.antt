pub mod Entries
pub mod Gates
pub mod LinkChecks
pub mod Links
pub mod SoFar
