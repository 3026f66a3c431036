pub mod Decided
pub mod Places
