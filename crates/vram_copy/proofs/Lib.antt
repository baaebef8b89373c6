pub mod CopyLemmas
pub mod CostLemmas
pub mod CutLemmas
pub mod FillLemmas
pub mod HalfLemmas
pub mod LoadLemmas
pub mod MoveLemmas
pub mod WordLemmas
