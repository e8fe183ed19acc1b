pub mod Bytes
pub mod LittleEndianLaws
