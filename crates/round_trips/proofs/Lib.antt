pub mod Rows
pub mod Placed
pub mod Undone
pub mod Runs
pub mod Once
