pub mod Hazard
pub mod Lanes
pub mod Laws
