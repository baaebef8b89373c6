-- The effect of drawing a span, or a chunk of one.
use Rattle.std.specs.Prelude.{ℕ, ◌≡◌, ◌≤◌, ◌+◌, ◌%◌, List, Some, length}
use Rattle.vram_store.specs.Vram.{height_of}
use Rattle.span_lanes.specs.declared.span.Chunk.{Chunk}
use Rattle.span_lanes.specs.declared.span.Span.{Span}
use Rattle.texel_lanes.specs.declared.texture.Texture.{Texture}
use Rattle.span_lanes.specs.Cells.{Stage}
use Rattle.span_lanes.specs.Chunks.Chunk.{drawn_chunk}
use Rattle.span_lanes.specs.Cost.{chunk_cost, span_cost}
use Rattle.span_lanes.specs.Shade.{IsSpan, LiesIn, drawn_span, texture_of}

-- video memory, and the number of steps so far
abbrev pub at_stage : List ℕ → ℕ → Stage
at_stage m steps = record { m = m; steps = steps }

-- a span that can be drawn in video memory
pub record CanDraw (s : Span) (m : List ℕ) : Type 0 where
  pub span : IsSpan s
  pub lies : LiesIn (height_of m) s

-- such a span with a texture
pub record CanSample (s : Span) (t : Texture) (m : List ℕ) : Type 0 where
  pub can : CanDraw s m
  pub texture : texture_of s.paint ≡ Some t

-- one of the chunks into which a span is cut from its left
pub record IsChunk (p : Chunk) : Type 0 where
  pub some : 1 ≤ p.k
  pub few : p.k ≤ 16
  pub within : p.first + p.k ≤ p.span.now.n
  pub cut : p.first % 16 ≡ 0

-- the cells of a chunk were drawn, one after another, in at least `spared` steps fewer than its cost
pub record DrawsChunk (p : Chunk) (spared : ℕ) (before after : Stage) : Type 0 where
  pub cells : after.m ≡ drawn_chunk p before.m
  pub long : length after.m ≡ length before.m
  pub cost : after.steps + spared ≤ before.steps + chunk_cost p.span.now p.first p.k

-- all cells of a span were drawn, in at least `spared` steps fewer than its cost
pub record DrawsSpan (s : Span) (spared : ℕ) (before after : Stage) : Type 0 where
  pub cells : after.m ≡ drawn_span s s.n before.m
  pub long : length after.m ≡ length before.m
  pub cost : after.steps + spared ≤ before.steps + span_cost s
