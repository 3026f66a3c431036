pub mod Items
pub mod Limit
