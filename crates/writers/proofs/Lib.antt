pub mod Turns
pub mod Heads
pub mod Pairs
pub mod Enumerated
pub mod Found
pub mod Fills
pub mod Written
pub mod Once
