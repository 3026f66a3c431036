pub mod Answers
pub mod Histories
pub mod Phases
pub mod States
pub mod Theorems
pub mod Standings
