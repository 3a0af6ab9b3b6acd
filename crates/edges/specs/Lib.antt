pub mod CaseT
pub mod Edges
