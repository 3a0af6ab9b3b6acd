pub mod Way
pub mod Written
pub mod Tables
pub mod Edges
pub mod Claims
