pub mod Tags
pub mod Spelling
