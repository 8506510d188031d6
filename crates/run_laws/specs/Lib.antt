pub mod Programs
pub mod Reads
pub mod Sizes
pub mod Whole
pub mod Laws
pub mod Sample
