pub mod Base
pub mod Checking
pub mod Known
pub mod Parts
pub mod Scan
