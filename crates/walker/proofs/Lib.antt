pub mod Cases
pub mod Down
pub mod Ends
