pub mod Splits
pub mod Pieces
pub mod Rows
pub mod Cells
pub mod Loads
pub mod Once
