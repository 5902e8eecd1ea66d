pub mod Prefixes
pub mod GateTable
pub mod Preorder
