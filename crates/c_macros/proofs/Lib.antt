pub mod Replacing
pub mod Chains
pub mod Circles
pub mod Marks
pub mod Trails
pub mod Known
pub mod Places
pub mod Links
