pub mod Left
pub mod Shelves
