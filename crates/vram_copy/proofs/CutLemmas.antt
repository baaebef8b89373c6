-- How a copied row is cut, and the cost of its chunks.
use Rattle.std.proofs.Common.{◌≡◌, ◌<◌, ◌≤◌, inl, inr, ◌+◌, ◌*◌, ◌-◌, ◌%◌, ◌/◌, ℕ, zero, suc, Bool, true, false, cond}
use Rattle.std.proofs.Common.{arith, subst, refl}
use Rattle.std.proofs.lemmas.Bool.{cases_lt}
use Rattle.px_num.specs.declared.shape.Cell.{Cell}
use Rattle.overlap_guard.specs.Hazard.{has_copy_hazard}
use Rattle.vram_copy.specs.Rect.{right, down}
use Rattle.vram_copy.specs.Costs.{since_cut, begins_chunk, chunk_at, chunk_cost, cost_below, row_cost, copy_cost}
use Rattle.vram_copy.specs.Laws.{IsCut, LastCutLaw, IsChunk, ChunksLaw, CopyCostLaw, FillCostLaw}
use Rattle.vram_copy.proofs.CostLemmas.{first_begins, inside, behind, chunk_spent}

-- ---- the last cut

cut_before : (s t : Cell) (i : ℕ) → IsCut s t (i - since_cut s t i)
cut_before s t i = elim (cases_lt ((s.x + i) % 1024) i) [
  | inl less ↦ elim (cases_lt ((t.x + i) % 1024) ((s.x + i) % 1024)) [
    | inl of_t ↦ inr (inr (omega (arith, less, of_t)))
    | inr of_s ↦ inr (inl (omega (arith, less, of_s)))
  ]
  | inr more ↦ elim (cases_lt ((t.x + i) % 1024) i) [
    | inl less ↦ inr (inr (omega (arith, less, more)))
    | inr far ↦ inl (omega (arith, more, far))
  ]
]

uncut_from : (a i k : ℕ) → k ≤ i → i - k < (a + i) % 1024 → (a + k) % 1024 ≡ 0 → ⊥
uncut_from a i k le near cut = omega arith

none_between : (s t : Cell) (i k : ℕ) → i - since_cut s t i < k → k ≤ i → ¬ (IsCut s t k)
none_between s t i k above le (inl first) = omega (arith, above, first)
none_between s t i k above le (inr (inl of_s)) = uncut_from s.x i k le (omega (arith, above, le)) of_s
none_between s t i k above le (inr (inr of_t)) = uncut_from t.x i k le (omega (arith, above, le)) of_t

pub last_cut : LastCutLaw
last_cut s t i = (cut_before s t i, λ k above le. none_between s t i k above le)

-- ---- chunk after chunk

past_cut : (a i k : ℕ) → 0 < k → (a + i) % 1024 + k < 1024 → (a + (i + k)) % 1024 ≡ 0 → ⊥
past_cut a i k some room cut = omega arith

no_cut : (s t : Cell) (w i k : ℕ) → 0 < k → k < chunk_at s t w i → ¬ (IsCut s t (i + k))
no_cut s t w i k some lt (inl first) = omega (arith, some, first)
no_cut s t w i k some lt (inr (inl of_s)) = past_cut s.x i k some (omega (arith, lt)) of_s
no_cut s t w i k some lt (inr (inr of_t)) = past_cut t.x i k some (omega (arith, lt)) of_t

chunk_is : (s t : Cell) (w i : ℕ) → i < w → begins_chunk s t i ≡ true → IsChunk s t w i (chunk_at s t w i)
chunk_is s t w i lt begun = record {
  some = omega (arith, lt);
  most = omega arith;
  in_row = omega (arith, lt);
  inside = inside s t w i (chunk_at s t w i) begun refl;
  uncut = λ k some within. no_cut s t w i k some within;
  next = behind s t w i (chunk_at s t w i) begun refl;
}

pub chunks : ChunksLaw
chunks s t w = (first_begins s t, λ i lt begun. chunk_is s t w i lt begun)

-- ---- at most three steps per cell

chunk_most : (s t : Cell) (n : ℕ) → 1 ≤ n → chunk_cost s t n ≤ 3 * n
unfolding chunk_cost
chunk_most s t n some = pick (has_copy_hazard s t n)
  where
    pick : (b : Bool) → cond b (3 * n) 3 ≤ 3 * n
    pick true = omega arith
    pick false = omega (arith, some)

from_most : (most : ℕ) (s t : Cell) (w i : ℕ) → i ≤ w → (i < w → begins_chunk s t i ≡ true) → w - i ≤ most
    → cost_below s t w i ≤ 3 * i → cost_below s t w w ≤ 3 * w
from_most zero s t w i le begun few so_far = let e : i ≡ w = omega arith in
    subst (λ (n : ℕ). cost_below s t w n ≤ 3 * n) e so_far
from_most (suc most) s t w i le begun few so_far = elim (cases_lt i w) [
  | inl lt ↦
      let n : ℕ = chunk_at s t w i in
      let chunk = chunk_is s t w i lt (begun lt) in
      let step = chunk_spent s t w i n (begun lt) refl chunk.some in
      let price = chunk_most (right s i) (right t i) n chunk.some in
      from_most most s t w (i + n) chunk.in_row chunk.next (omega (arith, few, chunk.some))
      (omega (arith, step, price, so_far))
  | inr past ↦ let e : i ≡ w = omega (arith, le, past) in subst (λ (n : ℕ). cost_below s t w n ≤ 3 * n) e so_far
]

row_most : (s t : Cell) (w : ℕ) → row_cost s t w ≤ 3 * w
unfolding row_cost
row_most s t w = from_most w s t w 0 (omega arith) (λ some. first_begins s t) (omega arith) (omega arith)

pub copy_most : (height : ℕ) (s t : Cell) (w h : ℕ) → copy_cost height s t w h ≤ 3 * w * h
unfolding copy_cost
copy_most height s t w zero = omega arith
copy_most height s t w (suc h) =
    let most = row_most (down height s h) (down height t h) w in
    let others = copy_most height s t w h in
    grind (arith, most, others)

three_four : (w h : ℕ) → 3 * w * h ≤ 4 * w * h
three_four w zero = omega arith
three_four w (suc h) = let others = three_four w h in grind (arith, others)

pub copies_small : CopyCostLaw
copies_small height s t w h =
    let most = copy_most height s t w h in
    let four = three_four w h in
    (most, omega (arith, most, four))

pub fills_small : FillCostLaw
fills_small w zero = omega arith
fills_small w (suc h) = let others = fills_small w h in let one : w / 16 ≤ 4 * w = omega arith in
    grind (arith, others, one)

-- ---- some copies

pub apart_cost : copy_cost 512 (record { x = 0; y = 0 }) (record { x = 16; y = 0 }) 16 1 ≤ 3
unfolding copy_cost row_cost chunk_cost begins_chunk has_copy_hazard
apart_cost = omega arith

pub left_cost : copy_cost 512 (record { x = 1; y = 0 }) (record { x = 0; y = 0 }) 16 1 ≤ 3
unfolding copy_cost row_cost chunk_cost begins_chunk has_copy_hazard
left_cost = omega arith
