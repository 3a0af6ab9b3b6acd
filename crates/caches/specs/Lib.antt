pub mod Terms
pub mod Claims
