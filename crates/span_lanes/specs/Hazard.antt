-- When a chunk reads a cell that it writes.
pub mod Guard
pub mod HazardFree
