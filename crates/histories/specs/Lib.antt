pub mod Views
pub mod Calls
pub mod Histories
pub mod Laws
pub mod Shows
