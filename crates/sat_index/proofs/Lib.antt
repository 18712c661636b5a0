pub mod Signatures
pub mod Buckets
pub mod Listing
