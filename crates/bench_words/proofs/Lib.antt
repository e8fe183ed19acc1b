pub mod Shapes
pub mod ParseLemmas
pub mod ReaderLemmas
