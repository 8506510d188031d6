pub mod Names
pub mod Nodes
