pub mod Texts
pub mod Written
pub mod Source
pub mod Answers
pub mod Decided
