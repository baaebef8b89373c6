-- Clip rectangles.
use Rattle.std.specs.Prelude.{ℕ, ◌≡◌, ◌+◌, ◌≤◌, ◌<◌, Some}
use Rattle.span_lanes.specs.Hazard.Guard.{IsHazardFree}
use Rattle.span_lanes.specs.declared.span.ClipRect.{ClipRect}
use Rattle.span_lanes.specs.declared.span.Span.{Span}
use Rattle.span_lanes.specs.Shade.{IsSpan, texture_of}
use Rattle.texel_lanes.specs.declared.texture.Texture.{Texture}

-- at least one cell, all of them in video memory of this height
pub record IsClipRect (height : ℕ) (b : ClipRect) : Type 0 where
  pub columns : 1 ≤ b.w
  pub rows : 1 ≤ b.h
  pub right : b.x + b.w ≤ 1024
  pub bottom : b.y + b.h ≤ height

-- n cells of a row from (x, y) on are in a clip rectangle
pub record IsInClip (b : ClipRect) (x y n : ℕ) : Type 0 where
  pub left : b.x ≤ x
  pub right : x + n ≤ b.x + b.w
  pub top : b.y ≤ y
  pub bottom : y < b.y + b.h

-- no span of a texture in a clip rectangle has a hazard
pub record IsClipHazardFree (b : ClipRect) (t : Texture) : Type 0 where
  pub hazard_free : (s : Span) → texture_of s.paint ≡ Some t → IsSpan s → IsInClip b s.x s.y s.n → IsHazardFree s
