pub mod Completing
pub mod Deciding
pub mod Performed
pub mod Phased
pub mod Replayed
pub mod Stood
