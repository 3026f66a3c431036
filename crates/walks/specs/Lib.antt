pub mod Branches
pub mod Nodes
pub mod Walks
