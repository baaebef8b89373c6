pub mod BiasLemmas
pub mod MeanLemmas
pub mod Offsets
pub mod SumLemmas
