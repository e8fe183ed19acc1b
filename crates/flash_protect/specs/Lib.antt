pub mod Locking
pub mod Setting
