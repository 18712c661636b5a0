pub mod Operands
pub mod Suffixed
