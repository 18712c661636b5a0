pub mod ConstantSteps
pub mod Lines
pub mod SpecifierSteps
