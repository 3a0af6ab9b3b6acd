pub mod Laws
pub mod Rooms
pub mod Rows
pub mod Lent
