pub mod Finds
pub mod Idle
pub mod Rooms
pub mod Answering
