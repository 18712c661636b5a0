pub mod Distinct
pub mod Counting
pub mod Propagation
pub mod Sets
pub mod Truths
