pub mod Copy
pub mod Costs
pub mod Fill
pub mod Laws
pub mod Loads
pub mod Places
pub mod Rect
pub mod Words
