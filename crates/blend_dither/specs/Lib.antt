pub mod Bias
pub mod Color
pub mod Laws
