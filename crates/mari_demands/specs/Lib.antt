pub mod DemandChecks
pub mod Demands
pub mod LimitChecks
pub mod LimitPairs
pub mod Limits
pub mod RunChecks
pub mod Runs
pub mod SoFar
