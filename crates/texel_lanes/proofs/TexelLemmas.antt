-- Texels computed from the cells that are read.
use Rattle.std.proofs.Common.{◌≡◌, ◌<◌, ◌≤◌, ℕ, List, true, false, ltb, refl, ap, ◌∙◌, arith}
use Rattle.std.proofs.lemmas.Bool.Decides.{nat_tests}
use Rattle.px_num.specs.declared.shape.Cell.{Cell}
use Rattle.texture_page.specs.Page.{texel_place, clut_place, index_at, index_in, windowed}
use Rattle.texel_lanes.specs.declared.texture.Texture.{Texture}
use Rattle.texel_lanes.specs.Texture.{at_cell, texel}

low_depth : (n : ℕ) → n < 2 → ltb n 2 ≡ true
low_depth n lt = grind (arith, nat_tests)

high_depth : (n : ℕ) → 2 ≤ n → ltb n 2 ≡ false
high_depth n le = grind (arith, nat_tests)

-- a texel of fifteen bits is its cell
pub texel_direct : (t : Texture) (u v : ℕ) (m : List ℕ) (cell : Cell) → 2 ≤ t.page.depth
    → cell ≡ texel_place t.page t.window u v
    → at_cell m cell ≡ texel t u v m
unfolding texel
texel_direct t u v m cell deep e = rw (high_depth t.page.depth deep) (ap (at_cell m) e)

pub texel_entry : (t : Texture) (u v : ℕ) (m : List ℕ) (cell : Cell) (h : ℕ) → t.page.depth < 2
    → cell ≡ texel_place t.page t.window u v → h ≡ at_cell m cell
    → at_cell m (clut_place t.clut (index_at t.page t.window u h)) ≡ texel t u v m
unfolding texel
texel_entry t u v m cell h low e read =
    rw (low_depth t.page.depth low)
    (ap (λ (k : ℕ). at_cell m (clut_place t.clut (index_at t.page t.window u k))) (read ∙ ap (at_cell m) e))

-- a texel of four bits is the CLUT entry at its index
pub texel_four : (t : Texture) (u v : ℕ) (m : List ℕ) (across h e : ℕ) → t.page.depth ≡ 0
    → across ≡ windowed t.window.mask_x t.window.off_x u
    → h ≡ at_cell m (texel_place t.page t.window u v) → e ≡ at_cell m (clut_place t.clut (index_in 0 across h))
    → e ≡ texel t u v m
texel_four t u v m across h e four window read entry =
    let here : index_in 0 across h ≡ index_at t.page t.window u h = rw (window, four) refl in
    entry ∙ ap (λ (i : ℕ). at_cell m (clut_place t.clut i)) here
    ∙ texel_entry t u v m (texel_place t.page t.window u v) h (omega (arith, four)) refl read

-- a texel of eight bits is the CLUT entry at its index
pub texel_eight : (t : Texture) (u v : ℕ) (m : List ℕ) (across h e : ℕ) → t.page.depth ≡ 1
    → across ≡ windowed t.window.mask_x t.window.off_x u
    → h ≡ at_cell m (texel_place t.page t.window u v) → e ≡ at_cell m (clut_place t.clut (index_in 1 across h))
    → e ≡ texel t u v m
texel_eight t u v m across h e eight window read entry =
    let here : index_in 1 across h ≡ index_at t.page t.window u h = rw (window, eight) refl in
    entry ∙ ap (λ (i : ℕ). at_cell m (clut_place t.clut i)) here
    ∙ texel_entry t u v m (texel_place t.page t.window u v) h (omega (arith, eight)) refl read
