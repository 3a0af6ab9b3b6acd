pub mod Rights
pub mod Verdict
pub mod Answer
