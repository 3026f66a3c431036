pub mod Format
pub mod Outcomes
pub mod Places
