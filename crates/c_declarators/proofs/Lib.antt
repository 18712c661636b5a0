pub mod Arrays
pub mod DeclaratorSteps
pub mod ParameterSteps
pub mod Unnamed
