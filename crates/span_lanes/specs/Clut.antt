-- CLUTs that are read once, and modulated.
pub mod CachedClut
pub mod ModulatedClut
pub mod ModulatedClut256
