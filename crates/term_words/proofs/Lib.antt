pub mod OneBit
pub mod Lists
