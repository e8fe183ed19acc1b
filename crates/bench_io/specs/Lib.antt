pub mod Streams
pub mod Memory
pub mod Files
pub mod Texts
pub mod Printing
