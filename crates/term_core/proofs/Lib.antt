mod Equal
pub mod Tables
pub mod Values
