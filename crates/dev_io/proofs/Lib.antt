pub mod Appended
pub mod Gives
pub mod Parts
pub mod Repeating
pub mod Writing
