-- Setting sixteen cells at once equals setting them one after another.
use Rattle.std.proofs.Common.{◌≡◌, ◌+◌, ◌*◌, ◌/◌, ◌%◌, ℕ, List, Some, length, get_or, slice_set, replicate, arith, refl}
use Rattle.std.proofs.Common.{ap, sym, ◌∙◌}
use Rattle.std.proofs.lemmas.Simd.{get_or-replicate}
use Rattle.px_num.specs.Fold.{each_below}
use Rattle.px_num.specs.declared.shape.Cell.{Cell}
use Rattle.px_num.proofs.FoldLemmas.{each_below-add, each_below-same}
use Rattle.vram_store.specs.Vram.{IsStored, Lanes, set}
use Rattle.vram_store.specs.Plot.{is_testing, is_forcing, written_over, draw_lane, drawn_lanes}
use Rattle.vram_store.specs.Chunk.{IsLane}
use Rattle.vram_store.proofs.ChunkLaw.{chunk_law}
use Rattle.vram_store.proofs.MaskLemmas.{kept_untested, forced_off}
use Rattle.vram_store.proofs.Ones.{ones}
use Rattle.vram_copy.specs.Fill.{filled_row, filled_rows, filled_rectangle}
use Rattle.vram_copy.specs.Rect.{right}
use Rattle.vram_copy.proofs.CopyLemmas.{place}

-- with mask setting 0 a halfword is written as it is
set_over : (cell color : ℕ) → written_over 0 cell (Some color) ≡ Some color
unfolding is_testing is_forcing
set_over cell color = rw (kept_untested 0 cell refl, forced_off 0 color refl) refl

set_lane : (cell color j h : ℕ) → j ≡ 1 → h ≡ color → IsLane (written_over 0 cell (Some color)) j h cell
set_lane cell color j h one same = rw (set_over cell color) (one, same)

draws_set : (color start j : ℕ) (m : List ℕ) → draw_lane (λ i cells. Some color) 0 start j m
    ≡ slice_set m (start + j) color
draws_set color start j m = rw (set_over (get_or m (start + j) 0) color) refl

-- n cells of a row from an index on
abbrev pub run_of : List ℕ → ℕ → ℕ → ℕ → List ℕ
run_of m start color n = each_below (λ i cells. slice_set cells (start + i) color) n m

-- sixteen lanes of one colour, all to be written
abbrev pub lanes_of : ℕ → Lanes
lanes_of color = record { n = 16; lanes = replicate 16 color; bits = 65535 }

pub stored_run : (old new : List ℕ) (start color : ℕ) → IsStored old start (lanes_of color) new
    → new ≡ run_of old start color 16
unfolding drawn_lanes
stored_run old new start color stored =
    chunk_law (λ i cells. Some color) 0 start old new (lanes_of color)
    (record { blind = λ j lt now apart. refl })
    (record {
      lane = λ j lt. set_lane (get_or old (start + j) 0) color _ _ (ones j lt)
          (get_or-replicate 16 j color 0 lt);
    })
    stored
    ∙ each_below-same (draw_lane (λ i cells. Some color) 0 start) (λ i cells. slice_set cells (start + i) color) 16 old
    (λ i cells lt. draws_set color start i cells)

-- sixteen more cells of a row
pub row_chunk : (m old new : List ℕ) (first : Cell) (k color : ℕ) → first.x % 16 ≡ 0
    → old ≡ filled_row m first (16 * k) color → new ≡ run_of old (place (right first (16 * k))) color 16
    → new ≡ filled_row m first (16 * (k + 1)) color
row_chunk m old new first k color whole so_far ran =
    let e : 16 * (k + 1) ≡ 16 * k + 16 = omega arith in
    rw e (ran ∙ ap (λ cells. run_of cells (place (right first (16 * k))) color 16) so_far
    ∙ sym (each_below-add (λ i cells. set cells (right first i).x first.y color) (16 * k) 16 m
    ∙ each_below-same (λ i cells. set cells (right first (16 * k + i)).x first.y color)
    (λ i cells. slice_set cells (place (right first (16 * k)) + i) color)
    16 (filled_row m first (16 * k) color)
    (λ i cells lt. let at : place (right first (16 * k + i)) ≡ place (right first (16 * k)) + i = omega arith in
    ap (λ n. slice_set cells n color) at)))

-- all rows, at the height of video memory
pub filled_is_whole : (height : ℕ) (m new : List ℕ) (first : Cell) (w j h color : ℕ) → length m ≡ 1024 * height
    → new ≡ filled_rows height m first (record { w = w; h = j }) color → j ≡ h
    → new ≡ filled_rectangle m first (record { w = w; h = h }) color
unfolding filled_rectangle
filled_is_whole height m new first w j h color long so_far all =
    let e : height ≡ length m / 1024 = omega arith in
    so_far ∙ ap (λ rows. filled_rows rows m first (record { w = w; h = j }) color) e
    ∙ ap (λ k. filled_rows (length m / 1024) m first (record { w = w; h = k }) color) all
