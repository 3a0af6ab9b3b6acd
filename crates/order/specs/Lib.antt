pub mod Runs
pub mod Plain
pub mod Tallies
pub mod Claims
