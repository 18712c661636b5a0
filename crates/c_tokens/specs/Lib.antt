pub mod Constants
pub mod Directives
pub mod Headers
pub mod Pieces
pub mod Reading
pub mod Words
