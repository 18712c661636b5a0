pub mod Executions
pub mod Measure
pub mod Ready
