pub mod ByteLemmas
pub mod FloorLemmas
pub mod FoldLemmas
pub mod LaneOps
pub mod Ring
pub mod SameLemmas
