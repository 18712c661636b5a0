pub mod Shape
pub mod Term
pub mod Table
