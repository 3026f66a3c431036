pub mod Digits
pub mod Members
pub mod Words
pub mod Values
pub mod Rising
