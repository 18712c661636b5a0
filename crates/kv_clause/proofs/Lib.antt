pub mod Chains
pub mod Queries
pub mod Ranges
