pub mod Counts
pub mod Divisions
pub mod Lists
pub mod Numbers
pub mod SameBases
pub mod Wrapping
