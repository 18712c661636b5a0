pub mod Growth
pub mod Opened
pub mod Found
