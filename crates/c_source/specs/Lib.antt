pub mod Sources
pub mod Causes
