pub mod Tracing
pub mod Lines
pub mod Cutting
pub mod Playing
pub mod Scripts
pub mod Endings
pub mod Serving
pub mod Statuses
