pub mod Refusals
pub mod Scheme
pub mod Satp
pub mod Map
pub mod Access
