pub mod Signature
pub mod Listed
