pub mod Shelves
pub mod Memory
