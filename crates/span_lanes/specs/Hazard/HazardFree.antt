-- When no chunk of a span reads a cell that it writes (our own rule: a chunk is read as a whole before it is written,
-- and the chunks and rows before it are finished by then).
use Rattle.std.specs.Prelude.{ℕ, ◌≡◌, ◌<◌, ◌≤◌, ◌+◌, ◌-◌, ◌%◌, ◌⊎◌}
use Rattle.texel_lanes.specs.declared.texture.Texture.{Texture}
use Rattle.span_lanes.specs.declared.span.Span.{Span}
use Rattle.span_lanes.specs.Hazard.Guard.{paint_texel}

-- no cell of a span has its texel in a cell that an earlier cell of the same chunk writes
pub record AreTexelsApart (span : Span) (t : Texture) : Type 0 where
  pub apart : (i k : ℕ) → i < span.n → i - i % 16 ≤ k → k < i
      → (paint_texel span.paint t span.x span.y i).x ≡ span.x + k
      → (paint_texel span.paint t span.x span.y i).y ≡ span.y → ⊥

-- contiguous texels in the columns `first` to `last`, read for n cells of the same row from column x on: they end to
-- the left of the cells, or begin sixteen columns or more to the left of them, or do not end to the left of the last
-- cell
abbrev pub AreColumnsApart : (first last x n : ℕ) → Type 0
AreColumnsApart first last x n = ((last < x) ⊎ (first + 16 ≤ x)) ⊎ (x + n ≤ last + 1)
