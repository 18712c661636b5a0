pub mod Folded
pub mod Picks
