pub mod Blocks
pub mod Chains
pub mod Names
pub mod Queries
pub use Rattle.sat_clause.specs.Literals
pub use Rattle.sat_clause.specs.Propagation
