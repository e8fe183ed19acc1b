pub mod ArmsLemmas
pub mod Arming
pub mod Stepping
pub mod Adding
pub mod Extending
pub mod Falling
pub mod Calling
