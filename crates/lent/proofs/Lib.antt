pub mod Value
pub mod Lent0
pub mod Lent1
pub mod LentRam1
pub mod Lends
