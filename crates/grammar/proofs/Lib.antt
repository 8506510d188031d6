mod Tests
pub mod Growth
pub mod Arenas
pub mod Productions
pub mod Exits
pub mod Headers
