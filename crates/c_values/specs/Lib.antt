pub mod Operands
pub mod Pointing
