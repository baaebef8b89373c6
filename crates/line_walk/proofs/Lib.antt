pub mod Decided
pub mod RiseLemmas
pub mod SlopeLemmas
