pub mod Nesting
pub mod OwnTokens
pub mod Places
pub mod Signs
pub mod Spells
pub mod SpellsStatements
pub mod SpellsText
