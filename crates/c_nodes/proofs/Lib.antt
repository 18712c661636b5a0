pub mod ArgumentLemmas
pub mod CallRooms
pub mod Listed
pub mod Parts
