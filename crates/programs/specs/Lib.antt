pub mod Nodes
pub mod Programs
pub mod Types
