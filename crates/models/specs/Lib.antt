pub mod Language
pub mod Models
pub mod Ahead
pub mod Search
pub mod Rows
pub mod Lister
pub mod Numbers
