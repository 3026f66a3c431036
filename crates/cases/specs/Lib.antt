pub mod Cases
pub mod Observing
pub mod Refusals
pub mod Requests
