pub mod Picks
pub mod Fronts
