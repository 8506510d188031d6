-- names, substitution, wider scopes, the table
pub mod Names
pub mod Substitution
pub mod Growth
pub mod Filling
pub mod Tables
-- single steps
pub mod Preservation
pub mod Progress
pub mod Falling
pub mod Counting
pub mod Live
pub mod Room
pub mod Bodies
pub mod Determinism
-- runs on a machine
pub mod Orders
pub mod Acceptance
pub mod Soundness
-- types
pub mod Typing
pub mod Weakening
-- net and peak
pub mod Linear
pub mod Leaves
pub mod Differences
pub mod Peak
pub mod Need
pub mod Bounds
pub mod Pieces
pub mod Examples
