pub mod Bracketed
pub mod Gathered
pub mod Suffixed
