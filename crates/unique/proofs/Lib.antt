pub mod Law
pub mod Claims
