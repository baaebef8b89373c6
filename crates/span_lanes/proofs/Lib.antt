mod ModulatedClutLemmas
mod ShadingLemmas
mod TexelRunLemmas
mod TriangleSetupLemmas
pub mod AttributeRampLemmas
pub mod BackLemmas
pub mod BlindLemmas
pub mod CellsLemmas
pub mod ChunkDrawLemmas
pub mod ChunkLemmas
pub mod ColorLemmas
pub mod CostLemmas
pub mod GuardLemmas
pub mod HazardFreeLemmas
pub mod PlanLemmas
pub mod SolidLemmas
pub mod RowsHazardLemmas
pub mod TexelLemmas
pub mod TexelRowLemmas
pub mod UntexturedLemmas
pub mod RowLemmas
pub mod RunLemmas
pub mod WalkLemmas
pub mod RectangleLemmas
