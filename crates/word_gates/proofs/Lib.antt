pub mod Negations
pub mod Exact
pub mod Moves
pub mod Bounds
pub mod Divisions
pub mod Widths
