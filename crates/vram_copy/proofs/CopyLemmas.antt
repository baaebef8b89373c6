-- Copying a run of cells at once equals copying them one after another.
use Rattle.std.proofs.Common.{◌≡◌, ◌<◌, ◌≤◌, ◌⊎◌, inl, inr, ◌+◌, ◌*◌, ◌-◌, ◌/◌, ◌%◌, ℕ, Bool, true, false, cond}
use Rattle.std.proofs.Common.{List, Option, Some, None, length, get_or, arith, refl, ap, sym, ◌∙◌}
use Rattle.std.proofs.lemmas.Bool.{cases_lt}
use Rattle.px_num.specs.declared.shape.Cell.{Cell}
use Rattle.px_num.proofs.FoldLemmas.{each_below-add, each_below-same}
use Rattle.overlap_guard.specs.Hazard.{HasCopyHazard, has_copy_hazard}
use Rattle.overlap_guard.proofs.TestLemmas.{copy_iff, same_bool, false_of}
use Rattle.vram_store.specs.Vram.{IsStored, Lanes, at, set, bit}
use Rattle.vram_store.specs.Plot.{is_testing, is_forcing, is_kept, forced, plot, draw_at, draw_lane, drawn_lanes}
use Rattle.vram_store.specs.Chunk.{IsBlind, IsLane, HasLanes}
use Rattle.vram_store.proofs.ChunkLaw.{chunk_law}
use Rattle.vram_store.proofs.Drawn.{plot_is}
use Rattle.vram_store.proofs.MaskLemmas.{kept_untested}
use Rattle.vram_copy.specs.Rect.{Sides, beside, right}
use Rattle.vram_copy.specs.Copy.{copied_rectangle, copied_rows, copied_row, copied_run}

pub plot_untested : (m : List ℕ) (mask x y color : ℕ) → is_testing mask ≡ false → plot m mask x y color
    ≡ set m x y (forced mask color)
unfolding plot
plot_untested m mask x y color off = rw (kept_untested mask (at m x y) off) refl

-- ---- a plot depends only on the two bits of the setting

pub plot_alike : (m : List ℕ) (a b x y color : ℕ) → is_testing a ≡ is_testing b → is_forcing a ≡ is_forcing b
    → plot m a x y color ≡ plot m b x y color
unfolding plot is_kept forced
plot_alike m a b x y color tests forces = rw (tests, forces) refl

pub run_alike : (m : List ℕ) (a b : ℕ) (s t : Cell) (n : ℕ) → is_testing a ≡ is_testing b
    → is_forcing a ≡ is_forcing b → copied_run m a s t n ≡ copied_run m b s t n
run_alike m a b s t n tests forces =
    each_below-same (λ i cells. plot cells a (t.x + i) t.y (get_or cells (1024 * s.y + (s.x + i)) 0))
    (λ i cells. plot cells b (t.x + i) t.y (get_or cells (1024 * s.y + (s.x + i)) 0)) n m
    (λ i cells lt. plot_alike cells a b (t.x + i) t.y (get_or cells (1024 * s.y + (s.x + i)) 0) tests forces)

pub set_bit_alone : (is_testing 1 ≡ false) × (is_forcing 1 ≡ true)
unfolding is_testing is_forcing
set_bit_alone = (refl, refl)

pub no_bit : (is_testing 0 ≡ false) × (is_forcing 0 ≡ false)
unfolding is_testing is_forcing
no_bit = (refl, refl)

-- the index of a cell
abbrev pub place : Cell → ℕ
place cell = 1024 * cell.y + cell.x

-- lane i of a copy reads the cell i columns to the right of the source
abbrev pub read_from : Cell → ℕ → List ℕ → Option ℕ
read_from s i m = Some (get_or m (place s + i) 0)

run_is : (m : List ℕ) (mask : ℕ) (s t : Cell) (n : ℕ) → copied_run m mask s t n
    ≡ drawn_lanes (read_from s) mask (place t) n m
unfolding drawn_lanes
run_is m mask s t n =
    each_below-same (λ i cells. plot cells mask (t.x + i) t.y (get_or cells (1024 * s.y + (s.x + i)) 0))
    (draw_lane (read_from s) mask (place t)) n m
    (λ i cells lt.
    let there : 1024 * t.y + (t.x + i) ≡ place t + i = omega arith in
    let here : 1024 * s.y + (s.x + i) ≡ place s + i = omega arith in
    plot_is cells mask (t.x + i) t.y (get_or cells (1024 * s.y + (s.x + i)) 0)
    ∙ ap (λ p. draw_at mask p (Some (get_or cells (1024 * s.y + (s.x + i)) 0)) cells) there
    ∙ ap (λ p. draw_at mask (place t + i) (Some (get_or cells p 0)) cells) here)

-- ---- without a hazard no lane reads a cell that an earlier one writes

away : (s t : Cell) (n j : ℕ) → ¬ (HasCopyHazard s t n) → s.x + n ≤ 1024 → t.x + n ≤ 1024 → j < n
    → (place s + j < place t) ⊎ (place t + j ≤ place s + j)
away s t n j free room_s room_t lt = elim (cases_lt (place s + j) (place t)) [
  | inl before ↦ inl before
  | inr from ↦ elim (cases_lt (place s) (place t)) [
    | inl within ↦ absurd
        (free (j, lt, (place s + j - place t, omega (arith, within, from), (omega arith, omega arith))))
    | inr past ↦ inr (omega (arith, past))
  ]
]

blind_of : (m : List ℕ) (s t : Cell) (n : ℕ) → ¬ (HasCopyHazard s t n) → s.x + n ≤ 1024 → t.x + n ≤ 1024
    → IsBlind (read_from s) (place t) n m
blind_of m s t n free room_s room_t = record {
  blind = λ j lt now apart. ap Some (apart.others (place s + j) (away s t n j free room_s room_t lt));
}

pub lane_of : (kept : Bool) (b h color cell : ℕ) → b ≡ cond kept 0 1 → h ≡ color
    → IsLane (cond kept None (Some color)) b h cell
lane_of true b h color cell e f = inl (λ one. absurd (omega (arith, e, one)))
lane_of false b h color cell e f = (e, f)

-- one store for a run: each colour with the mask setting applied, and a bit for each cell that is not protected
pub record IsLaneRun (m : List ℕ) (mask : ℕ) (s t : Cell) (of : Lanes) : Type 0 where
  pub colors : (j : ℕ) → j < of.n → get_or of.lanes j 0 ≡ forced mask (get_or m (place s + j) 0)
  pub open_cells : (j : ℕ) → j < of.n → bit of.bits j ≡ cond (is_kept mask (get_or m (place t + j) 0)) 0 1

lanes_of : (m : List ℕ) (mask : ℕ) (s t : Cell) (of : Lanes) → IsLaneRun m mask s t of
    → HasLanes (read_from s) mask (place t) m of
lanes_of m mask s t of run = record {
  lane = λ j lt. lane_of (is_kept mask (get_or m (place t + j) 0)) (bit of.bits j) (get_or of.lanes j 0)
      (forced mask (get_or m (place s + j) 0)) _ (run.open_cells j lt) (run.colors j lt);
}

pub run_at_once : (old new : List ℕ) (mask : ℕ) (s t : Cell) (of : Lanes) → ¬ (HasCopyHazard s t of.n)
    → s.x + of.n ≤ 1024 → t.x + of.n ≤ 1024 → IsLaneRun old mask s t of → IsStored old (place t) of new
    → new ≡ copied_run old mask s t of.n
run_at_once old new mask s t of free room_s room_t run stored =
    chunk_law (read_from s) mask (place t) old new of (blind_of old s t of.n free room_s room_t)
    (lanes_of old mask s t of run) stored
    ∙ sym (run_is old mask s t of.n)

pub free_of : (s t : Cell) (n : ℕ) → has_copy_hazard s t n ≡ false → ¬ (HasCopyHazard s t n)
free_of s t n off hazard = let on = (copy_iff s t n).1 hazard in cc

-- ---- chunks of a piece

-- a hazard depends on the distance of the two sides
pub shifted_hazard : (s t : Cell) (d k : ℕ) → has_copy_hazard (beside s d) (beside t d) k ≡ has_copy_hazard s t k
shifted_hazard s t d k =
    same_bool (has_copy_hazard (beside s d) (beside t d) k) (has_copy_hazard s t k)
    (copy_iff (beside s d) (beside t d) k) (
      λ h. let same = (copy_iff s t k).0 h in
          (same.0, same.1, (same.2.0, same.2.1, (omega (arith, same.2.2.0), same.2.2.1))),
      λ h. (copy_iff s t k).1 (h.0, h.1, (h.2.0, h.2.1, (omega (arith, h.2.2.0), h.2.2.1))),
    )

-- fewer cells have no hazard either
pub shorter_free : (s t : Cell) (n k : ℕ) → has_copy_hazard s t n ≡ false → k ≤ n → has_copy_hazard s t k ≡ false
shorter_free s t n k free le =
    false_of (has_copy_hazard s t k) (copy_iff s t k) (λ h. free_of s t n free (h.0, omega (arith, h.1, le), h.2))

pub free_beside : (s t : Cell) (n d k : ℕ) → has_copy_hazard s t n ≡ false → k ≤ n
    → has_copy_hazard (beside s d) (beside t d) k ≡ false
free_beside s t n d k free le = shifted_hazard s t d k ∙ shorter_free s t n k free le

-- the same for cells that are equal to the moved cells
pub free_of_both : (s t source target : Cell) (d n k : ℕ) → source ≡ beside s d → target ≡ beside t d
    → has_copy_hazard s t n ≡ false → k ≤ n
    → has_copy_hazard source target k ≡ false
free_of_both s t source target d n k at_s at_t free le =
    ap (λ (cell : Cell). has_copy_hazard cell target k) at_s
    ∙ ap (λ (cell : Cell). has_copy_hazard (beside s d) cell k) at_t ∙ free_beside s t n d k free le

pub piece_more : (m now new : List ℕ) (mask : ℕ) (s t source target : Cell) (done n : ℕ) → source ≡ beside s done
    → target ≡ beside t done
    → now ≡ copied_run m mask s t done → new ≡ copied_run now mask source target n
    → new ≡ copied_run m mask s t (done + n)
piece_more m now new mask s t source target done n at_s at_t so_far ran =
    ran
    ∙ ap (λ (cell : Cell). copied_run now mask cell target n) at_s
    ∙ ap (λ (cell : Cell). copied_run now mask (beside s done) cell n) at_t
    ∙ ap (λ cells. copied_run cells mask (beside s done) (beside t done) n) so_far
    ∙ sym (each_below-add (λ i cells. plot cells mask (t.x + i) t.y (get_or cells (1024 * s.y + (s.x + i)) 0)) done n m
    ∙ each_below-same
    (λ i cells. plot cells mask (t.x + (done + i)) t.y (get_or cells (1024 * s.y + (s.x + (done + i))) 0))
    (λ i cells. plot cells mask (t.x + done + i) t.y (get_or cells (1024 * s.y + (s.x + done + i)) 0)) n
    (copied_run m mask s t done)
    (λ i cells lt.
    let over : t.x + (done + i) ≡ t.x + done + i = omega arith in
    let from : s.x + (done + i) ≡ s.x + done + i = omega arith in
    ap (λ x. plot cells mask x t.y (get_or cells (1024 * s.y + (s.x + (done + i))) 0)) over
    ∙ ap (λ x. plot cells mask (t.x + done + i) t.y (get_or cells (1024 * s.y + x) 0)) from))

-- ---- pieces of a row

row_and_run : (m : List ℕ) (mask : ℕ) (s t : Cell) (done n : ℕ) → (s.x + done) % 1024 + n ≤ 1024
    → (t.x + done) % 1024 + n ≤ 1024
    → copied_run (copied_row m mask s t done) mask (right s done) (right t done) n ≡ copied_row m mask s t (done + n)
row_and_run m mask s t done n room_s room_t =
    sym (each_below-add
    (λ i cells. plot cells mask ((t.x + i) % 1024) t.y (get_or cells (1024 * s.y + (s.x + i) % 1024) 0)) done n m
    ∙ each_below-same
    (λ i cells. plot cells mask ((t.x + (done + i)) % 1024) t.y
    (get_or cells (1024 * s.y + (s.x + (done + i)) % 1024) 0))
    (λ i cells. plot cells mask ((t.x + done) % 1024 + i) t.y (get_or cells (1024 * s.y + ((s.x + done) % 1024 + i)) 0))
    n (copied_row m mask s t done)
    (λ i cells lt.
    let over : (t.x + (done + i)) % 1024 ≡ (t.x + done) % 1024 + i = omega arith in
    let from : (s.x + (done + i)) % 1024 ≡ (s.x + done) % 1024 + i = omega arith in
    ap (λ x. plot cells mask x t.y (get_or cells (1024 * s.y + (s.x + (done + i)) % 1024) 0)) over
    ∙ ap (λ x. plot cells mask ((t.x + done) % 1024 + i) t.y (get_or cells (1024 * s.y + x) 0)) from))

pub row_more : (m now new : List ℕ) (mask : ℕ) (s t source target : Cell) (done n : ℕ) → source ≡ right s done
    → target ≡ right t done
    → source.x + n ≤ 1024 → target.x + n ≤ 1024 → now ≡ copied_row m mask s t done
    → new ≡ copied_run now mask source target n
    → new ≡ copied_row m mask s t (done + n)
row_more m now new mask s t source target done n at_s at_t room_s room_t so_far ran =
    ran
    ∙ ap (λ (cell : Cell). copied_run now mask cell target n) at_s
    ∙ ap (λ (cell : Cell). copied_run now mask (right s done) cell n) at_t
    ∙ ap (λ cells. copied_run cells mask (right s done) (right t done) n) so_far
    ∙ row_and_run m mask s t done n (rw (← ap (λ (cell : Cell). cell.x) at_s) room_s)
    (rw (← ap (λ (cell : Cell). cell.x) at_t) room_t)

-- all rows, at the height of video memory
pub copied_is_whole : (height : ℕ) (m new : List ℕ) (mask : ℕ) (sides : Sides) (w j h : ℕ) → length m ≡ 1024 * height
    → new ≡ copied_rows height m mask sides (record { w = w; h = j }) → j ≡ h
    → new ≡ copied_rectangle m mask sides (record { w = w; h = h })
unfolding copied_rectangle
copied_is_whole height m new mask sides w j h long so_far all =
    let e : height ≡ length m / 1024 = omega arith in
    so_far ∙ ap (λ rows. copied_rows rows m mask sides (record { w = w; h = j })) e
    ∙ ap (λ k. copied_rows (length m / 1024) m mask sides (record { w = w; h = k })) all
