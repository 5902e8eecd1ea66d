pub mod BorderChecks
pub mod Borders
pub mod SoFar
pub mod ZoneChecks
pub mod Zones
