pub mod Closing
pub mod Due
pub mod Ending
pub mod Halting
pub mod Pausing
pub mod Puts
