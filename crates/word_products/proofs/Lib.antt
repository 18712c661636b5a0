pub mod Rows
pub mod Signed
