pub mod Entries
pub mod Firsts
pub mod Flags
pub mod Keys
pub mod Tables
