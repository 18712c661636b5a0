pub mod Mark
pub mod Analysis
pub mod Rank
pub mod State
pub mod Choice
pub mod Repair
pub mod Once
pub mod Turn
