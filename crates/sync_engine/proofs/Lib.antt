pub mod Chains
pub mod Asked
pub mod Pausing
pub mod Loops
pub mod Looking
pub mod Rounding
pub mod Pieces
pub mod Numbered
