pub mod Laid
pub mod Tagged
pub mod Trails
pub mod Growing
pub mod Ranges
