pub mod Standing
pub mod Refusals
pub mod Reasons
pub mod Laws
