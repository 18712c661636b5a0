pub mod Bare
pub mod Meanings
pub mod Parts
pub mod Reads
