pub mod Luby
pub mod Members
