pub mod ExternalEnds
pub mod Knots
pub mod Texts
pub mod WholeTexts
