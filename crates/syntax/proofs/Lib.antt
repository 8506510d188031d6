pub mod Complete
pub mod Sound
pub mod Prefix
pub mod Unique
pub mod Ways
