pub mod Came
pub mod Cut
pub mod Ended
pub mod File
