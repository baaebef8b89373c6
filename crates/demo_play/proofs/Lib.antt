pub mod Generating
pub mod Heights
pub mod Sums
pub mod Words
