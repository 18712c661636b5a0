pub mod Blocks
pub mod FirstKeys
pub mod Keyed
pub mod Members
pub mod Named
pub mod Tables
