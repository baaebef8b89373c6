pub mod Floor
pub mod Fold
pub mod Height
pub mod Lanes
pub mod Number
pub mod Zeros
