mod Digits
pub mod Scans
pub mod Tests
pub mod Types
pub mod Fronts
pub mod Classes
pub mod Marks
pub mod Lookups
