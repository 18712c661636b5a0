pub mod Counts
pub mod Held
pub mod Polling
pub mod Solving
pub mod Finding
