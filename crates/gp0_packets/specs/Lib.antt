pub mod Corners
pub mod Drawn
pub mod Fields
pub mod Loads
pub mod Notes
pub mod Packets
pub mod Ranges
