pub mod Arguments
pub mod Laws
