pub mod Presents
pub mod Records
pub mod Soundness
pub mod Weights
