pub mod Literals
pub mod Propagation
pub mod Sets
