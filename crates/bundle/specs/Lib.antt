pub mod Codes
pub mod Parts
pub mod Claims
