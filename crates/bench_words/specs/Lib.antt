pub mod Words
pub mod Reader
pub mod Parsed
