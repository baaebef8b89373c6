pub mod Command
pub mod Typed
