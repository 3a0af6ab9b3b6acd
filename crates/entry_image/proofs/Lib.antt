pub mod Bytes
pub mod Entries
pub mod Refs
