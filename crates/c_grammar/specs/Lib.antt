pub mod Kinds
pub mod Marks
pub mod ReadStatements
pub mod ReadText
pub mod ReadTypes
pub mod ReadExpressions
pub mod Readers
pub mod Suffixes
