pub mod Observations
pub mod Layering
pub mod Standing
pub mod Caps
pub mod Capped
pub mod Laws
