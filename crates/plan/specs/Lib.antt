pub mod Map
pub mod Writes
pub mod Levels
