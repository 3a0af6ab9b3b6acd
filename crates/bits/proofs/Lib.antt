pub mod Bools
pub mod Masks
pub mod Flags
