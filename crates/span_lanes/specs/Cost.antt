-- The store steps that the cells of a row may take (our own rule).
use Rattle.std.specs.Prelude.{ℕ, zero, suc, ◌+◌, ◌-◌, ◌*◌, ◌/◌, min, Bool, Option, None, Some, if◌then◌else◌}
use Rattle.span_lanes.specs.declared.span.Paint.{Paint}
use Rattle.texel_lanes.specs.declared.texture.Texture.{Texture}
use Rattle.texel_lanes.specs.Texture.{texel_steps}
use Rattle.span_lanes.specs.declared.span.Span.{Span}
use Rattle.span_lanes.specs.Shade.{texture_of}
use Rattle.span_lanes.specs.Hazard.Guard.{has_hazard}

-- the accesses for the texel of a pixel, if it has one
abbrev pub texture_steps : Option Texture → ℕ
texture_steps None = 0
texture_steps (Some t) = texel_steps t.page.depth

-- the accesses for a pixel, except those to its own cell
abbrev pub paint_steps : Paint → ℕ
paint_steps paint = texture_steps (texture_of paint)

-- the cost of a chunk of n cells whose pixels take d accesses each. Without a hazard, its own cells are read in one
-- step and written in one; with a hazard, each cell takes two steps of its own.
abbrev pub steps_of : Bool → ℕ → ℕ → ℕ
steps_of hazard d n = if hazard then (d + 2) * n else 2 + d * n

-- the cost of n cells of a span, from cell `first` on
abbrev pub chunk_cost : Span → ℕ → ℕ → ℕ
chunk_cost span first n = steps_of (has_hazard span first n) (paint_steps span.paint) n

-- the cost of the first chunks of a span, which is cut from its left into chunks of sixteen cells and a last, shorter
-- one
abbrev pub chunks_cost : Span → ℕ → ℕ
chunks_cost span zero = 0
chunks_cost span (suc c) = chunks_cost span c + chunk_cost span (16 * c) (min (span.n - 16 * c) 16)

-- the cost of all chunks
unfoldable pub span_cost : Span → ℕ
span_cost span = chunks_cost span ((span.n + 15) / 16)
