pub mod Words
pub mod Numbers
pub mod Hexes
pub mod Lines
pub mod Forms
pub mod Faults
