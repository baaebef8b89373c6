pub mod ContiguousLemmas
pub mod NibbleLemmas
pub mod TexelLemmas
