pub mod Bits
pub mod Tables
pub mod Truths
pub mod Inputs
