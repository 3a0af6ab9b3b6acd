pub mod Laws
pub mod PowUp
