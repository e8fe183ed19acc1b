pub mod Calm
pub mod Kept
pub mod Written
pub mod Synced
