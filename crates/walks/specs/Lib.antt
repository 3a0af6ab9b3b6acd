pub mod Plain
pub mod Asked
pub mod Claims
