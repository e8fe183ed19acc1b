pub mod Once
pub mod Ends
pub mod Sending
pub mod Asking
pub mod Polling
pub mod Trying
pub mod Restarting
