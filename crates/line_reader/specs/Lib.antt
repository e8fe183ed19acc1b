pub mod Lines
pub mod Taking
pub mod Bytes
pub mod Finding
