-- A chunk without a hazard reads no cell that an earlier lane of it writes.
use Rattle.std.proofs.Common.{◌≡◌, ◌<◌, ◌≤◌, ℕ, zero, suc, List, None, Some, Bool, true, false, cond, ltb, eqb, ◌+◌}
use Rattle.std.proofs.Common.{◌-◌, ◌*◌, ◌%◌, map, length, get_or, refl, ap, ◌∙◌, inl, inr, arith}
use Rattle.std.specs.List.{range_with_len}
use Rattle.std.specs.Option.{MatchOption}
use Rattle.std.proofs.lemmas.Bool.{cases_lt}
use Rattle.std.proofs.lemmas.Bool.Decides.{nat_tests}
use Rattle.std.proofs.lemmas.List.FromFn.{get_or-map-range_with_len, length-map-range_with_len}
use Rattle.px_num.specs.declared.shape.Cell.{Cell}
use Rattle.texture_page.specs.Page.{texel_place, clut_place, index_at, index_in, windowed}
use Rattle.overlap_guard.specs.Hazard.{Writes, cell_at, HasStripHazard, HasTextureHazard}
use Rattle.span_lanes.specs.declared.span.Brush.{Brush}
use Rattle.texel_lanes.specs.declared.texture.Texture.{Texture}
use Rattle.span_lanes.specs.declared.span.Paint.{Paint}
use Rattle.span_lanes.specs.declared.span.Paint.TheVariants.{Flat, Shaded, TexturedTri, TexturedRow}
use Rattle.span_lanes.specs.declared.span.Span.{Span}
use Rattle.vram_store.specs.Plot.{later}
use Rattle.vram_store.specs.Chunk.{AgreesApart, IsBlind}
use Rattle.texel_lanes.specs.Texture.{at_cell, texel}
use Rattle.span_lanes.specs.Shade.{IsSpan, row_u, paint_pixel, shade, flat_pixel, dither_of, color_in}
use Rattle.span_lanes.specs.Shade.{attribute_in}
use Rattle.span_lanes.specs.Hazard.Guard.{paint_texel, paint_texels, target, clut_strip, clut_of, PaintHazard}
use Rattle.span_lanes.specs.Hazard.Guard.{HasHazard}

-- a cell that none of j lanes of a row writes
pub same_cell : (m now : List ℕ) (x y j cx cy : ℕ) → AgreesApart (1024 * y + x) j m now → cx < 1024 → x + j ≤ 1024
    → ((i : ℕ) → i < j → cx ≡ x + i → cy ≡ y → ⊥) → get_or now (1024 * cy + cx) 0 ≡ get_or m (1024 * cy + cx) 0
same_cell m now x y j cx cy agree low room hazard_free = elim (cases_lt cy y) [
  | inl above ↦ agree.others (1024 * cy + cx) (inl (omega arith))
  | inr not_above ↦ elim (cases_lt y cy) [
    | inl below ↦ agree.others (1024 * cy + cx) (inr (omega arith))
    | inr not_below ↦ elim (cases_lt cx x) [
      | inl left ↦ agree.others (1024 * cy + cx) (inl (omega arith))
      | inr not_left ↦ elim (cases_lt cx (x + j)) [
        | inl inside ↦ absurd (hazard_free (cx - x) (omega arith) (omega arith) (omega arith))
        | inr right ↦ agree.others (1024 * cy + cx) (inr (omega arith))
      ]
    ]
  ]
]

-- the CLUT of a depth
abbrev clut_at : ℕ → ℕ → (Cell → ℕ → Type 0)
clut_at depth clut target n =
    MatchOption (cond (eqb depth 0) (Some (clut_strip clut 16)) (cond (eqb depth 1) (Some (clut_strip clut 256)) None))
    ⊥ (λ strip. HasStripHazard strip target n)

entry_apart : (depth clut u h : ℕ) (target : Cell) (n : ℕ) → depth < 2 → (clut_at depth clut target n → ⊥)
    → (i : ℕ) → i < n → (clut % 64 * 16 + index_in depth u h) % 1024 ≡ target.x + i → (clut_place clut 0).y ≡ target.y
    → ⊥
entry_apart zero clut u h target n low none i lt across down = none
    (index_in 0 u h, omega arith, (i, lt, (across, down)))
entry_apart (suc zero) clut u h target n low none i lt across down = none
    (index_in 1 u h, omega arith, (i, lt, (across, down)))
entry_apart (suc (suc depth)) clut u h target n low none i lt across down = omega arith

choose : (b : Bool) (p q s t : ℕ) → (b ≡ true → p ≡ q) → s ≡ t → cond b p s ≡ cond b q t
choose true p q s t e f = e refl
choose false p q s t e f = f

low_depth : (n : ℕ) → ltb n 2 ≡ true → n < 2
low_depth n e = grind (arith, nat_tests)

-- a texel of a chunk without a hazard
texel_same : (t : Texture) (u v : ℕ) (m now : List ℕ) (x y j k : ℕ) → AgreesApart (1024 * y + x) j m now → x + k ≤ 1024
    → j < k
    → ((i : ℕ) → i < j → Writes (record { x = x; y = y }) i (texel_place t.page t.window u v).x
    (texel_place t.page t.window u v).y → ⊥)
    → (clut_at t.page.depth t.clut (record { x = x; y = y }) k → ⊥)
    → texel t u v now ≡ texel t u v m
unfolding texel
texel_same t u v m now x y j k agree room lt hazard_free none = choose (ltb t.page.depth 2) _ _ _ _ indexed direct
  where
    cell : Cell
    cell = texel_place t.page t.window u v

    direct : at_cell now (texel_place t.page t.window u v) ≡ at_cell m (texel_place t.page t.window u v)
    direct = same_cell m now x y j (texel_place t.page t.window u v).x (texel_place t.page t.window u v).y agree
        (omega arith) (omega arith) (λ i less e f. hazard_free i less (e, f))

    entry : (h : ℕ) → t.page.depth < 2 → at_cell now (clut_place t.clut (index_at t.page t.window u h))
        ≡ at_cell m (clut_place t.clut (index_at t.page t.window u h))
    entry h low = same_cell m now x y j (clut_place t.clut (index_at t.page t.window u h)).x
        (clut_place t.clut (index_at t.page t.window u h)).y agree (omega arith) (omega arith)
        (λ i less e f. entry_apart t.page.depth t.clut (windowed t.window.mask_x t.window.off_x u) h
        (record { x = x; y = y }) k low none i (omega arith) e f)

    indexed : ltb t.page.depth 2 ≡ true
        → at_cell now (clut_place t.clut (index_at t.page t.window u (at_cell now (texel_place t.page t.window u v))))
        ≡ at_cell m (clut_place t.clut (index_at t.page t.window u (at_cell m (texel_place t.page t.window u v))))
    indexed e =
        ap (λ (h : ℕ). at_cell now (clut_place t.clut (index_at t.page t.window u h))) direct
        ∙ entry (at_cell m (texel_place t.page t.window u v)) (low_depth t.page.depth e)

-- the texels of a chunk, from their cells
module _ (t : Texture) (f : ℕ → Cell) (x y first k : ℕ) (room : x + first + k ≤ 1024)
    (none : HasTextureHazard (map f (range_with_len first k)) (clut_of t) (target x y first) k → ⊥)
    (m now : List ℕ) (j : ℕ) (lt : j < k) (agree : AgreesApart (1024 * y + (x + first)) j m now) where
  pub texel_blind : (u v : ℕ) → f (first + j) ≡ texel_place t.page t.window u v → texel t u v now ≡ texel t u v m
  texel_blind u v e =
      let cells : List Cell = map f (range_with_len first k) in
      let here : cell_at cells j ≡ texel_place t.page t.window u v = get_or-map-range_with_len f first k j
      (first + j) _ lt refl ∙ e in
      let long : length cells ≡ k = length-map-range_with_len f first k in
      texel_same t u v m now (x + first) y j k agree (omega arith) lt
      (λ i less w. none (inl (j, omega arith, (i, less, rw here w)))) (λ h. none (inr h))

  pub back_blind : get_or now (1024 * y + (x + (first + j))) 0 ≡ get_or m (1024 * y + (x + (first + j))) 0
  back_blind = same_cell m now (x + first) y j (x + (first + j)) y agree (omega arith) (omega arith)
      (λ i less e f. omega arith)

paint_blind : (paint : Paint) (brush : Brush) (x y first k : ℕ) (m : List ℕ) → x + first + k ≤ 1024
    → (PaintHazard paint x y first k → ⊥)
    → (j : ℕ) → j < k → (now : List ℕ) → AgreesApart (1024 * y + (x + first)) j m now
    → paint_pixel paint brush (x + (first + j)) y (first + j) now ≡ paint_pixel paint brush (x + (first + j)) y
    (first + j) m
unfolding paint_texels
paint_blind (Flat color) brush x y first k m room none j lt now agree =
    ap (flat_pixel brush color (dither_of brush.dither (x + (first + j)) y))
    (same_cell m now (x + first) y j (x + (first + j)) y agree (omega arith) (omega arith) (λ i less e f. omega arith))
paint_blind (Shaded tri) brush x y first k m room none j lt now agree =
    ap (flat_pixel brush (color_in tri (x + (first + j)) y) (dither_of brush.dither (x + (first + j)) y))
    (same_cell m now (x + first) y j (x + (first + j)) y agree (omega arith) (omega arith) (λ i less e f. omega arith))
paint_blind (TexturedTri tri t) brush x y first k m room none j lt now agree =
    let back = back_blind t (paint_texel (TexturedTri tri t) t x y) x y first k room none m now j lt agree in
    let same = texel_blind t (paint_texel (TexturedTri tri t) t x y) x y first k room none m now j lt agree
    (attribute_in tri 3 (x + (first + j)) y) (attribute_in tri 4 (x + (first + j)) y) refl in
    rw (back, same) refl
paint_blind (TexturedRow color t u v flip) brush x y first k m room none j lt now agree =
    let back = back_blind t (paint_texel (TexturedRow color t u v flip) t x y) x y first k room none m now j lt agree in
    let same = texel_blind t (paint_texel (TexturedRow color t u v flip) t x y) x y first k room none m now j lt agree
    (row_u u flip (first + j)) v refl in
    rw (back, same) refl

pub span_blind : (span : Span) (first k : ℕ) (m : List ℕ) → IsSpan span → first + k ≤ span.n
    → (HasHazard span first k → ⊥)
    → IsBlind (later (shade span) first) (1024 * span.y + (span.x + first)) k m
unfolding shade
span_blind span first k m is within none = record {
  blind = λ j lt now agree. paint_blind span.paint span.brush span.x span.y first k m
      (omega (arith, is.in_row)) none j lt now agree;
}
