pub mod Firsts
pub mod Reports
pub mod Explained
