-- Chunks of up to sixteen cells, lane by lane.
pub mod Chunk
pub mod Lanes
pub mod Solid
pub mod Untextured
