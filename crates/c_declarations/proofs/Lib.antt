pub mod Commas
pub mod DeclarationEnds
pub mod Initialisers
