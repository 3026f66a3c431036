pub mod Members
pub mod Asked
pub mod Reasoned
pub mod Filling
