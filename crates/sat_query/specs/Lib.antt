pub mod Asking
pub mod Keeping
pub mod HeldBlocks
pub mod KeepingBlocks
