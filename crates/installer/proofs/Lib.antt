pub mod Filled
pub mod Install
