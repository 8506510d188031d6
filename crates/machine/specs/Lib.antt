pub mod Boards
pub mod Coins
pub mod Gates
pub mod Model
pub mod Orders
pub mod Promises
pub mod Scripts
