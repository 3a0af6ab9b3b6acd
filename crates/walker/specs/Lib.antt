pub mod Descent
pub mod Found
pub mod Reason
