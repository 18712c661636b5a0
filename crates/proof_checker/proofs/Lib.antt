pub mod Scans
pub mod Bases
pub mod Ready
pub mod Checkings
