-- Spans whose cells all become one halfword.
use Rattle.std.specs.Prelude.{ℕ, List}
use Rattle.span_lanes.specs.declared.span.Span.{Span}
use Rattle.span_lanes.specs.Draws.{CanDraw}
use Rattle.span_lanes.specs.Chunks.Lanes.{IsSolid}

-- a span that can be drawn in video memory, and the halfword that all its cells become
pub record CanFill (s : Span) (h : ℕ) (m : List ℕ) : Type 0 where
  pub can : CanDraw s m
  pub solid : IsSolid s h
