pub mod Parts
pub mod Replies
pub mod Requests
pub mod Steps
pub mod Syncing
