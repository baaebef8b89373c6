pub mod Bound
pub mod RepeatLemmas
pub mod Steps
