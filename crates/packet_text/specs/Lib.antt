pub mod Line
pub mod Number
pub mod Sums
pub mod Tap
