pub mod Refused
pub mod Texts
