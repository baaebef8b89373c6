pub mod Node
pub mod Walk
pub mod Repeats
pub mod Marks
pub mod Plans
