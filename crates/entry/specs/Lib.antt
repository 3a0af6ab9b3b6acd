pub mod Entry
pub mod Geometry
