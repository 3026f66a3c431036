pub mod Requests
pub mod Copied
pub mod Named
pub mod Sizes
pub mod Printed
pub mod Once
