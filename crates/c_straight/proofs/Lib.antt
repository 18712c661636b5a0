pub mod SumSteps
pub mod Bodies
pub mod InScope
