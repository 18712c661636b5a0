pub mod Rows
pub mod Speaking
