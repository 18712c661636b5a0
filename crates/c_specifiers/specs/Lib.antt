pub mod Members
pub mod Specifiers
