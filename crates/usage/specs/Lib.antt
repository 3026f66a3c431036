pub mod Asked
pub mod Advice
pub mod Answered
