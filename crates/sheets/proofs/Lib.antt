pub mod Marks
pub mod Parts
pub mod Shown
pub mod Turns
