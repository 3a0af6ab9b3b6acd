pub mod Half
pub mod Rest
