pub mod Polls
pub mod Seats
pub mod Word
