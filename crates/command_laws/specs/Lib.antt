pub mod Idle
pub mod Carried
pub mod Room
pub mod Standing
pub mod Commands
pub mod Restarting
