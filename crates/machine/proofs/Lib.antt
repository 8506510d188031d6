pub mod Accepts
pub mod Acts
mod Kept
pub mod Questions
mod Rounds
pub mod Tally
