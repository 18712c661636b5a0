pub mod Blockwise
pub mod Logs
pub mod Questions
