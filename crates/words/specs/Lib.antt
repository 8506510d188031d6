pub mod Bytes
pub mod Kinds
pub mod Laws
pub mod Spellings
pub mod Words
