pub mod Takings
pub mod Chunks
pub mod Reading
pub mod Splitting
