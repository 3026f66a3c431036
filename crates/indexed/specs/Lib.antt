pub mod Chains
pub mod Shelved
