pub mod Ours
pub mod Nodes
pub mod Sides
