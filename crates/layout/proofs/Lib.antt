pub mod Words
pub mod Rows
pub mod Records
pub mod Fits
pub mod Good
