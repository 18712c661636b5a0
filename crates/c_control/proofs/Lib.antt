pub mod ChainSteps
pub mod Leaving
pub mod Starts
