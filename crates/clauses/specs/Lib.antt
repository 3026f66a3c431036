pub mod Clauses
pub mod Origins
pub mod Sources
pub mod Tables
