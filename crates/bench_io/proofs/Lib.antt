pub mod Storing
pub mod Taking
pub mod Appending
pub mod HexTexts
