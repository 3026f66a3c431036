pub mod Held
pub mod Meaning
pub mod Sheets
pub mod Lines
