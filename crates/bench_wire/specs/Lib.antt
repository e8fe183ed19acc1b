pub mod Arming
pub mod BenchView
pub mod Adding
pub mod Falling
pub mod Calling
