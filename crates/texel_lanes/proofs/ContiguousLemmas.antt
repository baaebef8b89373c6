-- Contiguous texels.
use Rattle.std.proofs.Common.{◌≡◌, ◌≤◌, ◌<◌, ℕ, List, ◌+◌, ◌*◌, ◌/◌, ◌%◌, get_or, refl, ap, ◌∙◌, arith}
use Rattle.std.specs.Int.Bits.{and_zero_r, or_zero_r}
use Rattle.std.proofs.lemmas.Bool.Decides.{nat_tests}
use Rattle.std.proofs.lemmas.Nat.{and_mask}
use Rattle.texture_page.specs.Page.{texel_place, column, windowed, index_in}
use Rattle.texel_lanes.specs.declared.texture.Coordinates.{Coordinates}
use Rattle.texel_lanes.specs.declared.texture.Texture.{Texture}
use Rattle.texel_lanes.specs.Texture.{at_cell, texel}
use Rattle.texel_lanes.specs.Texels.{AreBeside, lane_place}
use Rattle.texel_lanes.proofs.TexelLemmas.{texel_direct}

-- a window with mask 0 changes no coordinate
pub open_window : (mask off u : ℕ) → mask ≡ 0 → u ≤ 255 → windowed mask off u ≡ u
unfolding windowed
open_window mask off u none low = rw (none, and_zero_r, or_zero_r, and_mask u 8) (omega arith)

pub deep_column : (depth u : ℕ) → 2 ≤ depth → column depth u ≡ u
deep_column depth u deep = grind (arith, nat_tests)

-- the index in a halfword depends only on the column modulo 2 at depth 1
pub same_half : (a b h : ℕ) → a % 2 ≡ b % 2 → index_in 1 a h ≡ index_in 1 b h
same_half a b h same = rw same refl

-- the index in a halfword depends only on the column modulo 4 at depth 0
pub same_part : (a b h : ℕ) → a % 4 ≡ b % 4 → index_in 0 a h ≡ index_in 0 b h
same_part a b h same = rw same refl

-- sixteen cells of texels of fifteen bits do not wrap
pub beside_room : (t : Texture) (at : Coordinates) → 2 ≤ t.page.depth → AreBeside t at
    → t.page.x + get_or at.us 0 0 + 16 ≤ 1024
beside_room t at deep is = let wide = deep_column t.page.depth (get_or at.us 0 0) deep in rw wide at is.in_row

-- one of sixteen contiguous texels of fifteen bits
pub beside_texel : (t : Texture) (at : Coordinates) (j h : ℕ) (m : List ℕ) → 2 ≤ t.page.depth → AreBeside t at
    → get_or at.us j 0 ≤ 255 → get_or at.vs j 0 ≤ 255 → j < 16
    → h ≡ get_or m (1024 * (t.page.y + get_or at.vs 0 0) + (t.page.x + get_or at.us 0 0) + j) 0
    → h ≡ texel t (get_or at.us j 0) (get_or at.vs j 0) m
beside_texel t at j h m deep is low_u low_v lane read =
    let u = open_window t.window.mask_x t.window.off_x (get_or at.us j 0) is.window_x low_u in
    let v = open_window t.window.mask_y t.window.off_y (get_or at.vs j 0) is.window_y low_v in
    let wide = deep_column t.page.depth (get_or at.us j 0) deep in
    let across = is.columns j lane in
    let down = is.rows j lane in
    let room = beside_room t at deep is in
    let here : (t.page.x + get_or at.us j 0) % 1024 ≡ t.page.x + get_or at.us j 0 = omega arith in
    let place : 1024 * (t.page.y + get_or at.vs 0 0) + (t.page.x + get_or at.us 0 0) + j
    ≡ 1024 * (t.page.y + get_or at.vs j 0) + (t.page.x + get_or at.us j 0) = omega arith in
    read ∙ ap (λ (k : ℕ). get_or m k 0) place
    ∙ rw (u, v, wide, here) at
    (texel_direct t (get_or at.us j 0) (get_or at.vs j 0) m
    (texel_place t.page t.window (get_or at.us j 0) (get_or at.vs j 0)) deep refl)

-- the index of one of sixteen contiguous texels of four bits
pub beside_index : (t : Texture) (at : Coordinates) (j h : ℕ) (m : List ℕ) → t.page.depth ≡ 0 → AreBeside t at
    → get_or at.us j 0 ≤ 255 → get_or at.vs j 0 ≤ 255 → j < 16
    → h ≡ index_in 0 (get_or at.us 0 0 + j)
    (get_or m (1024 * (t.page.y + get_or at.vs 0 0) + (t.page.x + (get_or at.us 0 0 + j) / 4)) 0)
    → h ≡ index_in 0 (windowed t.window.mask_x t.window.off_x (get_or at.us j 0)) (at_cell m (lane_place t at j))
beside_index t at j h m four is low_u low_v lane read =
    let u = open_window t.window.mask_x t.window.off_x (get_or at.us j 0) is.window_x low_u in
    let v = open_window t.window.mask_y t.window.off_y (get_or at.vs j 0) is.window_y low_v in
    let across = is.columns j lane in
    let down = is.rows j lane in
    let room = rw four at is.in_row in
    let here : (t.page.x + (get_or at.us 0 0 + j) / 4) % 1024 ≡ t.page.x + (get_or at.us 0 0 + j) / 4 = omega
    (arith, room) in
    rw (u, v, four, across, down, here) read
