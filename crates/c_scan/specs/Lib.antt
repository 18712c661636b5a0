pub mod Rows
pub mod Runs
pub mod Fronts
pub mod Escapes
pub mod Numbers
