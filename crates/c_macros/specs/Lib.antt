pub mod HeaderRows
pub mod Chains
pub mod Circles
pub mod Tables
pub mod Nexts
