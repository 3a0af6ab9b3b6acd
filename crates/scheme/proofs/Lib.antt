pub mod Widths
pub mod Levels
pub mod Classes
pub mod Answered
pub mod Pack
