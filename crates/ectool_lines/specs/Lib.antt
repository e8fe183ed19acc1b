pub mod Tools
pub mod Requests
pub mod Texts
pub mod Asking
pub mod Sending
pub mod Running
pub mod Answering
pub mod Following
