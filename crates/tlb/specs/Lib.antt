pub mod Cache
pub mod State
