pub mod Declarators
pub mod TypeNames
