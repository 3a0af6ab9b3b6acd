pub mod OneAnswer
pub mod Claims
