pub mod Seen
pub mod Units
pub mod Fronts
pub mod Numbered
pub mod Caps
pub mod Meanings
