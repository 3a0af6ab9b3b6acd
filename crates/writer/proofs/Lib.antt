pub mod Decimals
pub mod Going
pub mod Puts
pub mod Stores
pub mod Wrotes
