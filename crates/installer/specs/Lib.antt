pub mod Install
pub mod Stretch
