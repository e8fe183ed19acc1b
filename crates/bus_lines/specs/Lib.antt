pub mod BusCalls
pub mod Making
