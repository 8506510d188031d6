pub mod Names
pub mod Types
pub mod Questions
pub mod Walk
pub mod Resolves
pub mod Limits
pub mod Laws
pub mod Listings
