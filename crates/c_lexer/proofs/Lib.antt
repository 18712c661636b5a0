pub mod Sizes
pub mod Dividing
