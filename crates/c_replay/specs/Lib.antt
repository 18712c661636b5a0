pub mod RunEnd
pub mod View
