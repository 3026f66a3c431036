pub mod Lists
pub mod Splitting
pub mod Worked
