-- Spans without a hazard.
use Rattle.std.proofs.Common.{◌≡◌, ◌<◌, ◌≤◌, ℕ, Option, None, Some, Bool, true, false, cond, eqb, ◌+◌, ◌-◌, ◌*◌, ◌/◌}
use Rattle.std.proofs.Common.{◌%◌, ◌∙◌, inl, inr, map, refl, arith}
use Rattle.std.specs.Prelude.{IfSome}
use Rattle.std.specs.Option.{MatchOption}
use Rattle.std.specs.List.{range_with_len}
use Rattle.std.proofs.lemmas.List.FromFn.{get_or-map-range_with_len, length-map-range_with_len}
use Rattle.std.proofs.lemmas.Nat.{or_of_8, and_le_r}
use lib.Bits.{bit_and}
use Rattle.px_num.specs.declared.shape.Cell.{Cell}
use Rattle.px_num.specs.declared.shape.Strip.{Strip}
use Rattle.texture_page.specs.Page.{texel_place, column, windowed}
use Rattle.overlap_guard.specs.Hazard.{WrittenBefore, cell_at, HasTexelHazard, HasStripHazard}
use Rattle.texel_lanes.specs.declared.texture.Texture.{Texture}
use Rattle.span_lanes.specs.declared.span.Span.{Span}
use Rattle.texel_lanes.specs.Texture.{IsTexture}
use Rattle.span_lanes.specs.Shade.{IsSpan, texture_of}
use Rattle.span_lanes.specs.Hazard.Guard.{paint_texel, paint_texels, target, clut_of, page_width, IsHazardFree}
use Rattle.span_lanes.specs.Hazard.Guard.{LiesOutsideClut, LiesOutsidePage, LiesOutsideStrip}
use Rattle.span_lanes.specs.Hazard.HazardFree.{AreTexelsApart}

-- a coordinate after the window is within the page
pub windowed_small : (mask off v : ℕ) → mask ≤ 31 → windowed mask off v < 256
unfolding windowed
windowed_small mask off v few =
    let rows = and_le_r v (255 - mask * 8) in
    let offs = and_le_r off mask in
    or_of_8 (bit_and v (255 - mask * 8)) (bit_and off mask * 8) (omega (arith, rows)) (omega (arith, offs))

column_small : (depth u : ℕ) → u < 256 → column depth u < page_width depth
column_small depth u lt = by_depth (eqb depth 0) (eqb depth 1)
  where
    by_depth : (four eight : Bool) → cond four (u / 4) (cond eight (u / 2) u) < cond four 64 (cond eight 128 256)
    by_depth true eight = omega arith
    by_depth false true = omega arith
    by_depth false false = lt

texel_apart : (t : Texture) (x y n u v cx : ℕ) → IsTexture t → LiesOutsidePage t x y n → x + n ≤ 1024
    → x ≤ cx → cx < x + n
    → (texel_place t.page t.window u v).x ≡ cx → (texel_place t.page t.window u v).y ≡ y → ⊥
texel_apart t x y n u v cx is (inl (inl above)) room low high across down = omega arith
texel_apart t x y n u v cx is (inl (inr below)) room low high across down =
    let row = windowed_small t.window.mask_y t.window.off_y v is.window.mask_y in
    omega (arith, row)
texel_apart t x y n u v cx is (inr (inl right)) room low high across down =
    let col = column_small t.page.depth (windowed t.window.mask_x t.window.off_x u)
    (windowed_small t.window.mask_x t.window.off_x u is.window.mask_x) in
    omega (arith, col, right)
texel_apart t x y n u v cx is (inr (inr left)) room low high across down =
    let col = column_small t.page.depth (windowed t.window.mask_x t.window.off_x u)
    (windowed_small t.window.mask_x t.window.off_x u is.window.mask_x) in
    omega (arith, col, left.0, left.1)

-- a chunk of a row that has no cell of the CLUT
strip_apart : (clut : Option Strip) (x y n first k : ℕ)
    → IfSome clut (λ strip. LiesOutsideStrip strip x y n) → x + n ≤ 1024 → first + k ≤ n
    → MatchOption clut ⊥ (λ strip. HasStripHazard strip (target x y first) k) → ⊥
strip_apart None x y n first k apart room within h = h
strip_apart (Some strip) x y n first k (inl other) room within h = other h.2.2.1
strip_apart (Some strip) x y n first k (inr (inl right)) room within h =
    omega (arith, right, h.1, h.2.1, h.2.2.0)
strip_apart (Some strip) x y n first k (inr (inr left)) room within h =
    omega (arith, left.0, left.1, h.1, h.2.1, h.2.2.0)

pub page_apart : (span : Span) (t : Texture) → IsSpan span → IsTexture t
    → LiesOutsidePage t span.x span.y span.n → AreTexelsApart span t
page_apart span t is texture outside = record {
  apart = λ i k lt low before across down.
      texel_apart t span.x span.y span.n _ _ (span.x + k) texture outside is.in_row (omega arith) (omega arith) across
      down;
}

-- a span without a hazard (our own rule: the chunks before a chunk are finished, so only texels in the cells of their
-- own chunk matter, to the left of the cell that reads them)
pub chunks_free : (span : Span) (t : Texture) → IsSpan span → texture_of span.paint ≡ Some t
    → AreTexelsApart span t → LiesOutsideClut t span.x span.y span.n → IsHazardFree span
unfolding paint_texels
chunks_free span t is of_paint texels off = record {
  free = λ first n cut few within h. elim (rw of_paint at h) [
    | inl read ↦ read_none first n cut few within read
    | inr strip ↦ strip_apart (clut_of t) span.x span.y span.n first n off is.in_row within strip
  ];
}
  where
    read_none : (first n : ℕ) → first % 16 ≡ 0 → n ≤ 16 → first + n ≤ span.n
        → HasTexelHazard (map (paint_texel span.paint t span.x span.y) (range_with_len first n))
        (target span.x span.y first) → ⊥
    read_none first n cut few within h =
        let j : ℕ = h.0 in
        let f : ℕ → Cell = paint_texel span.paint t span.x span.y in
        let long = length-map-range_with_len f first n in
        let lt : j < n = omega (arith, h.1, long) in
        let here : cell_at (map f (range_with_len first n)) j ≡ f (first + j) = get_or-map-range_with_len f first n j
        (first + j) _ lt refl in
        let written : WrittenBefore (target span.x span.y first) j (f (first + j)) = rw here at h.2 in
        let same : span.x + first + written.0 ≡ span.x + (first + written.0) = omega arith in
        texels.apart (first + j) (first + written.0) (omega arith) (omega arith) (omega (arith, written.1))
        (written.2.0 ∙ same) written.2.1
