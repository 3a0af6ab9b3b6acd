pub mod Alike
pub mod Fitness
