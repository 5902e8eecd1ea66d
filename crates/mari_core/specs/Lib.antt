pub mod Nodes
pub mod Preorder
pub mod Growth
pub mod Machine
pub mod Replay
