pub mod Imaged
pub mod Accesses
