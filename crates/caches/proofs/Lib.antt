pub mod Kept
pub mod Rooms
pub mod Finds
pub mod Past
pub mod Ages
pub mod Rounds
pub mod Visits
pub mod Claims
