pub mod Documents
pub mod Refusals
pub mod Replies
pub mod Rows
