pub mod ReadAfterWriteLemmas
pub mod Places
pub mod TestLemmas
