pub mod Digits
pub mod Growth
pub mod Numbers
pub mod Pieces
pub mod Orders
pub mod Totals
pub mod Values
