pub mod Typed
pub mod Waiting
pub mod Controls
pub mod Sound
pub mod Laws
