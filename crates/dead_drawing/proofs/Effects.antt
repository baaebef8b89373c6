-- What packets do in two states that agree except in some cells.
use Rattle.std.proofs.Common.{◌≡◌, ◌*◌, ◌+◌, ◌%◌, ℕ, zero, suc, List, [], ◌∷◌, Option, None, Some, true, false, length}
use Rattle.std.proofs.Common.{inl, inr, refl, sym, ap, ◌∙◌, subst}
use Rattle.std.proofs.lemmas.Grind.{same_number_lists}
use Rattle.std.proofs.lemmas.List.{length-set}
use Rattle.px_num.specs.Fold.{each_below}
use Rattle.px_num.specs.declared.shape.Cell.{Cell}
use Rattle.gp0_packets.specs.declared.packet.Packet.{Packet}
use Rattle.gp0_packets.specs.declared.packet.Packet.TheVariants as packet
use Rattle.gp1_status.specs.Registers.{Registers}
use Rattle.gpu_core.specs.Machine.{Parts, effect_of, with_page, with_pixels}
use Rattle.prim_draw.specs.Apart.{AgreeBut, IsIn, SameAt}
use Rattle.prim_draw.specs.Areas.{moved_box}
use Rattle.prim_draw.specs.Draw.{drawn_packet}
use Rattle.prim_draw.proofs.LocalLemmas.{drawing_is_local}
use Rattle.prim_draw.proofs.StayLemmas.{drawing_stays}
use Rattle.vram_store.specs.Vram.{height_of, set}
use Rattle.vram_store.specs.Plot.{plot}
use Rattle.vram_store.proofs.Drawn.{plot_is, length-put_at}
use Rattle.vram_copy.specs.Copy.{copied_rectangle, copied_cell, copied_row}
use Rattle.vram_copy.specs.Fill.{filled_rectangle, filled_row}
use Rattle.vram_copy.specs.Rect.{Sides, Size, right, down}
use Rattle.vram_copy.specs.Words.{loaded_word, pixel_cell, pixels_next, pixel_of}
use Rattle.vram_copy.specs.declared.transfer.Transfer.{Transfer}
use Rattle.dead_drawing.specs.Calm.{IsCalm}
use Rattle.dead_drawing.specs.States.{PartsAlike}
use Rattle.dead_drawing.proofs.Moves.{keeps_all, fill_same, fill_makes, load_same}

-- ---- two states alike

-- One of them is the other with its own cells.
as_with : (among : ℕ → Type 0) (p q : Parts) → PartsAlike among p q → record p { m = q.m } ≡ q
as_with among p q h =
    ap (λ (r : Registers). record { m = q.m; regs = r; load = p.load; store = p.store }) (sym h.regs)
    ∙ ap (λ (job : Option Transfer). record { m = q.m; regs = q.regs; load = job; store = p.store }) (sym h.load)
    ∙ ap (λ (job : Option Transfer). record { m = q.m; regs = q.regs; load = q.load; store = job }) (sym h.store)

drawn_with : (among : ℕ → Type 0) (p : Parts) (now : List ℕ) (r : Registers) (what : Packet)
    → ((k : ℕ) → SameAt k p.m now → SameAt k (drawn_packet r what p.m) (drawn_packet r what now))
    → AgreeBut among p.m now
    → PartsAlike among (record p { m = drawn_packet r what p.m; regs = r })
    (record p { m = drawn_packet r what now; regs = r })
drawn_with among p now r what local a =
    record {
      cells = keeps_all among p.m now (drawn_packet r what p.m)
          (drawn_packet r what now) local a;
      regs = refl;
      load = refl;
      store = refl;
    }

pixels_with : (among : ℕ → Type 0) (p : Parts) (now : List ℕ) (job : Option Transfer) (word : ℕ)
    → AgreeBut among p.m now
    → PartsAlike among (with_pixels p job word) (with_pixels (record p { m = now }) job word)
pixels_with among p now None word a = record { cells = a; regs = refl; load = refl; store = refl }
pixels_with among p now (Some job) word a = record {
  cells = keeps_all among p.m now (loaded_word p.m p.regs.mask job word) (loaded_word now p.regs.mask job word)
      (λ k same. load_same k p.regs.mask word job p.m now same) a;
  regs = refl;
  load = refl;
  store = refl;
}

effect_with : (among : ℕ → Type 0) (p : Parts) (now : List ℕ) (what : Packet) → IsCalm what → AgreeBut among p.m now
    → PartsAlike among (effect_of p what) (effect_of (record p { m = now }) what)
unfolding effect_of
effect_with among p now (packet.Fill color x y w h) calm a = record {
  cells = keeps_all among p.m now _ _ (λ k same. fill_same k _ _ color p.m now same) a;
  regs = refl;
  load = refl;
  store = refl;
}
effect_with among p now (packet.Poly four a b c d shaded true semi raw clut page) calm agree = absurd calm
effect_with among p now (packet.Poly four a b c d shaded false semi raw clut page) calm agree =
    drawn_with among p now p.regs (packet.Poly four a b c d shaded false semi raw clut page)
    (λ k same. drawing_is_local p.regs
    (packet.Poly four a b c d shaded false semi raw clut page) k p.m now tt same) agree
effect_with among p now (packet.Segment a b semi) calm agree =
    drawn_with among p now p.regs (packet.Segment a b semi)
    (λ k same. drawing_is_local p.regs (packet.Segment a b semi) k p.m now tt same) agree
effect_with among p now (packet.Rect x y w h color true semi raw u v clut) calm a = absurd calm
effect_with among p now (packet.Rect x y w h color false semi raw u v clut) calm a =
    drawn_with among p now p.regs (packet.Rect x y w h color false semi raw u v clut)
    (λ k same. drawing_is_local p.regs (packet.Rect x y w h color false semi raw u v clut) k p.m now tt same) a
effect_with among p now (packet.Copy from to w h) calm a = absurd calm
effect_with among p now (packet.Store x y w h) calm a = absurd calm
effect_with among p now (packet.Load x y w h) calm a = record { cells = a; regs = refl; load = refl; store = refl }
effect_with among p now (packet.Pixels word) calm a = pixels_with among p now p.load word a
effect_with among p now (packet.Env index value) calm a = record { cells = a; regs = refl; load = refl; store = refl }
effect_with among p now packet.Irq calm a = record { cells = a; regs = refl; load = refl; store = refl }
effect_with among p now packet.Nop calm a = record { cells = a; regs = refl; load = refl; store = refl }
effect_with among p now packet.Finish calm a = record { cells = a; regs = refl; load = refl; store = refl }

-- After a packet that reads no other cells, alike states are alike.
pub effect_alike : (among : ℕ → Type 0) (p q : Parts) (what : Packet) → IsCalm what → PartsAlike among p q
    → PartsAlike among (effect_of p what) (effect_of q what)
effect_alike among p q what calm h =
    subst (λ (r : Parts). PartsAlike among (effect_of p what) (effect_of r what)) (as_with among p q h)
    (effect_with among p q.m what calm h.cells)

-- ---- no difference is left

same_cells : (m now : List ℕ) → AgreeBut (λ k. ⊥) m now → now ≡ m
same_cells m now a = same_number_lists now m a.count (λ k lt. elim (a.others k) [
  | inl never ↦ absurd never
  | inr same ↦ same
])

pub parts_same : (p q : Parts) → PartsAlike (λ k. ⊥) p q → q ≡ p
parts_same p q h = sym (as_with (λ k. ⊥) p q h) ∙ ap (λ (m : List ℕ). record p { m = m }) (same_cells p.m q.m h.cells)

-- A fill whose area contains all cells that may differ leaves no difference.
covered_with : (among : ℕ → Type 0) (p : Parts) (now : List ℕ) (color x y w h : ℕ)
    → ((k : ℕ) → among k → IsIn (moved_box x y w h) k) → length p.m % 1024 ≡ 0
    → AgreeBut among p.m now
    → PartsAlike (λ k. ⊥) (effect_of p (packet.Fill color x y w h))
    (effect_of (record p { m = now }) (packet.Fill color x y w h))
unfolding effect_of
covered_with among p now color x y w h inside whole a = record {
  cells = record {
    count = (keeps_all among p.m now _ _
        (λ k same. fill_same k (record { x = x; y = y }) (record { w = w; h = h }) color p.m now same) a).count;
    others = λ k. elim (a.others k) [
      | inl in_it ↦ inr (fill_makes k _ _ color p.m now a.count whole (inside k in_it)).cell
      | inr same ↦ inr (fill_same k (record { x = x; y = y }) (record { w = w; h = h }) color p.m now
          (record { count = a.count; cell = same })).cell
    ];
  };
  regs = refl;
  load = refl;
  store = refl;
}

pub covered_same : (among : ℕ → Type 0) (p q : Parts) (color x y w h : ℕ)
    → ((k : ℕ) → among k → IsIn (moved_box x y w h) k) → length p.m % 1024 ≡ 0
    → PartsAlike among p q → effect_of q (packet.Fill color x y w h) ≡ effect_of p (packet.Fill color x y w h)
covered_same among p q color x y w h inside whole alike =
    parts_same _ _
    (subst (λ (r : Parts). PartsAlike (λ k. ⊥) (effect_of p (packet.Fill color x y w h))
    (effect_of r (packet.Fill color x y w h)))
    (as_with among p q alike) (covered_with among p q.m color x y w h inside whole alike.cells))

-- ---- the number of cells stays

each_long : (step : ℕ → List ℕ → List ℕ) (n : ℕ) (m : List ℕ) → ((i : ℕ) (a : List ℕ) → length (step i a) ≡ length a)
    → length (each_below step n m) ≡ length m
each_long step zero m keeps = refl
each_long step (suc n) m keeps = keeps n (each_below step n m) ∙ each_long step n m keeps

plot_long : (m : List ℕ) (mask x y color : ℕ) → length (plot m mask x y color) ≡ length m
plot_long m mask x y color = ap length (plot_is m mask x y color) ∙ length-put_at (1024 * y + x) _ m

fill_long : (m : List ℕ) (first : Cell) (size : Size) (color : ℕ)
    → length (filled_rectangle m first size color) ≡ length m
unfolding filled_rectangle
fill_long m first size color =
    each_long (λ j cells. filled_row cells (down (height_of m) first j) size.w color) size.h m
    (λ j a. each_long (λ i cells. set cells (right first i).x (down (height_of m) first j).y color) size.w a
    (λ i b. length-set b _ color))

copy_long : (m : List ℕ) (mask : ℕ) (sides : Sides) (size : Size)
    → length (copied_rectangle m mask sides size) ≡ length m
unfolding copied_rectangle
copy_long m mask sides size =
    let from : ℕ → Cell = down (height_of m) sides.from in
    let to : ℕ → Cell = down (height_of m) sides.to in
    each_long (λ j cells. copied_row cells mask (from j) (to j) size.w) size.h m
    (λ j a. each_long (λ i cells. copied_cell cells mask (right (from j) i) (right (to j) i)) size.w a
    (λ i b. plot_long b mask (right (to j) i).x (right (to j) i).y _))

load_long : (m : List ℕ) (mask : ℕ) (job : Transfer) (word : ℕ) → length (loaded_word m mask job word) ≡ length m
unfolding loaded_word
load_long m mask job word =
    each_long
    (λ i cells. let cell = pixel_cell (height_of m) job (job.at + i) in
    plot cells mask cell.x cell.y (pixel_of (word ∷ []) i)) (pixels_next job) m
    (λ i a. plot_long a mask _ _ (pixel_of (word ∷ []) i))

pixels_long : (p : Parts) (job : Option Transfer) (word : ℕ) → length (with_pixels p job word).m ≡ length p.m
pixels_long p None word = refl
pixels_long p (Some job) word = load_long p.m p.regs.mask job word

pub effect_long : (p : Parts) (what : Packet) → length (effect_of p what).m ≡ length p.m
unfolding effect_of
effect_long p (packet.Fill color x y w h) = fill_long p.m _ _ color
effect_long p (packet.Copy from to w h) = copy_long p.m p.regs.mask _ _
effect_long p (packet.Poly four a b c d shaded textured semi raw clut page) =
    (drawing_stays (with_page p.regs textured page)
    (packet.Poly four a b c d shaded textured semi raw clut page) p.m).count
effect_long p (packet.Segment a b semi) = (drawing_stays p.regs (packet.Segment a b semi) p.m).count
effect_long p (packet.Rect x y w h color textured semi raw u v clut) =
    (drawing_stays p.regs (packet.Rect x y w h color textured semi raw u v clut) p.m).count
effect_long p (packet.Pixels word) = pixels_long p p.load word
effect_long p (packet.Load x y w h) = refl
effect_long p (packet.Store x y w h) = refl
effect_long p (packet.Env index value) = refl
effect_long p packet.Irq = refl
effect_long p packet.Nop = refl
effect_long p packet.Finish = refl
