-- The cost of a row, chunk by chunk.
use Rattle.std.proofs.Common.{◌≡◌, ◌<◌, ◌≤◌, cond, eqb, inl, inr, ◌+◌, ◌*◌, ◌-◌, ◌%◌, ◌/◌, List, length, ℕ, zero, suc}
use Rattle.std.proofs.Common.{true, false, min, arith, refl, ap, sym, ◌∙◌, add-zero}
use Rattle.std.proofs.lemmas.Bool.{cases_lt, cases_eq, eqb-true, eq-eqb}
use Rattle.std.proofs.lemmas.Bool.Decides.{nat_tests}
use Rattle.px_num.specs.declared.shape.Cell.{Cell}
use Rattle.px_num.proofs.FoldLemmas.{each_below-next}
use Rattle.vram_store.specs.Vram.{height_of}
use Rattle.vram_copy.specs.Rect.{beside, right}
use Rattle.vram_copy.specs.Costs.{since_cut, begins_chunk, chunk_len, chunk_at, chunk_cost, piece_len, piece_cost}
use Rattle.vram_copy.specs.Costs.{cell_cost, cost_below, row_cost, rows_cost, copy_cost}
use Rattle.vram_copy.proofs.CopyLemmas.{shifted_hazard}
use Rattle.overlap_guard.specs.Hazard.{has_copy_hazard}

-- ---- which cells begin a chunk

-- the distance from the last cut grows by 1 from cell to cell, unless a side wraps
since_more : (a b i k : ℕ) → a % 1024 + k < 1024 → b % 1024 + k < 1024
    → min (i + k) (min ((a + k) % 1024) ((b + k) % 1024)) ≡ min i (min (a % 1024) (b % 1024)) + k
since_more a b i k room_a room_b =
    let x : (a + k) % 1024 ≡ a % 1024 + k = omega arith in
    let y : (b + k) % 1024 ≡ b % 1024 + k = omega arith in
    rw (x, y) (omega arith)

begins_yes : (s t : Cell) (i : ℕ) → since_cut s t i % 16 ≡ 0 → begins_chunk s t i ≡ true
unfolding begins_chunk
begins_yes s t i e = eq-eqb (since_cut s t i % 16) 0 e

begins_is : (s t : Cell) (i : ℕ) → begins_chunk s t i ≡ true → since_cut s t i % 16 ≡ 0
unfolding begins_chunk
begins_is s t i e = eqb-true (since_cut s t i % 16) 0 e

begins_no : (s t : Cell) (i : ℕ) → 0 < since_cut s t i % 16 → begins_chunk s t i ≡ false
unfolding begins_chunk
begins_no s t i some = grind (arith, nat_tests)

-- sixteen cells further, or if a side wraps, the distance is a multiple of sixteen again
sixteen_on : (a b i n left : ℕ) → min i (min (a % 1024) (b % 1024)) % 16 ≡ 0 → n ≡ chunk_len (a % 1024) (b % 1024) left
    → n < left
    → min (i + n) (min ((a + n) % 1024) ((b + n) % 1024)) % 16 ≡ 0
sixteen_on a b i n left whole size more = elim (cases_lt (a % 1024 + n) 1024) [
  | inl room_a ↦ elim (cases_lt (b % 1024 + n) 1024) [
    | inl room_b ↦ let all : n ≡ 16 = omega (arith, size, more, room_a, room_b) in
        rw (since_more a b i n room_a room_b) (omega (arith, whole, all))
    | inr over ↦ let e : (b + n) % 1024 ≡ 0 = omega (arith, size, over) in rw e (omega arith)
  ]
  | inr over ↦ let e : (a + n) % 1024 ≡ 0 = omega (arith, size, over) in rw e (omega arith)
]

-- ---- a chunk and the cells after its first

-- the conditions of a chunk of n cells at cell i, and their consequences for its later cells
module _ (s t : Cell) (w i n : ℕ) (begun : begins_chunk s t i ≡ true) (size : n ≡ chunk_at s t w i) where
  whole : since_cut s t i % 16 ≡ 0
  whole = begins_is s t i begun

  fits : (n ≤ 16) × (n ≤ w - i) × ((s.x + i) % 1024 + n ≤ 1024) × ((t.x + i) % 1024 + n ≤ 1024)
  fits = let e = size in (omega arith, omega arith, omega arith, omega arith)

  since_inside : (k : ℕ) → k < n → since_cut s t (i + k) ≡ since_cut s t i + k
  since_inside k lt =
      let x : s.x + (i + k) ≡ s.x + i + k = omega arith in
      let y : t.x + (i + k) ≡ t.x + i + k = omega arith in
      ap (λ a. min (i + k) (min (a % 1024) ((t.x + (i + k)) % 1024))) x
      ∙ ap (λ b. min (i + k) (min ((s.x + i + k) % 1024) (b % 1024))) y
      ∙ since_more (s.x + i) (t.x + i) i k (omega (arith, fits.2, lt)) (omega (arith, fits.3, lt))

  pub inside : (k : ℕ) → 0 < k → k < n → begins_chunk s t (i + k) ≡ false
  inside k some lt = begins_no s t (i + k) (rw (since_inside k lt) (let e = whole in let few = fits.0 in omega arith))

  pub behind : i + n < w → begins_chunk s t (i + n) ≡ true
  behind more =
      let x : s.x + (i + n) ≡ s.x + i + n = omega arith in
      let y : t.x + (i + n) ≡ t.x + i + n = omega arith in
      begins_yes s t (i + n)
      (ap (λ a. min (i + n) (min (a % 1024) ((t.x + (i + n)) % 1024)) % 16) x
      ∙ ap (λ b. min (i + n) (min ((s.x + i + n) % 1024) (b % 1024)) % 16) y
      ∙ sixteen_on (s.x + i) (t.x + i) i n (w - i) whole size (omega (arith, more)))

  -- ---- its cost

  cost_none : (k : ℕ) → begins_chunk s t k ≡ false → cell_cost s t w k ≡ 0
  cost_none k off = rw off refl

  cost_some : cell_cost s t w i ≡ chunk_cost (right s i) (right t i) n
  cost_some = rw begun (ap (chunk_cost (right s i) (right t i)) (sym size))

  spent : (k : ℕ) → suc k ≤ n → cost_below s t w (i + suc k) ≡ cost_below s t w i + chunk_cost (right s i) (right t i) n
  spent zero le = each_below-next (λ j sum. sum + cell_cost s t w j) i 0 ∙ ap (λ c. cost_below s t w i + c) cost_some
  spent (suc k) le =
      let next : i + suc (suc k) ≡ i + suc k + 1 = omega arith in
      let before = spent k (omega (arith, le)) in
      let none = cost_none (i + suc k) (inside (suc k) (omega arith) le) in
      let more = each_below-next (λ j sum. sum + cell_cost s t w j) (i + suc k) 0 in
      ap (cost_below s t w) next ∙ more ∙ ap (λ c. cost_below s t w (i + suc k) + c) none
      ∙ add-zero (cost_below s t w (i + suc k)) ∙ before

  pub chunk_spent : 1 ≤ n → cost_below s t w (i + n) ≡ cost_below s t w i + chunk_cost (right s i) (right t i) n
  chunk_spent some = let e : n ≡ suc (n - 1) = omega arith in ap (λ k. cost_below s t w (i + k)) e
      ∙ spent (n - 1) (omega (arith, some))

pub first_begins : (s t : Cell) → begins_chunk s t 0 ≡ true
first_begins s t = begins_yes s t 0 (omega arith)

-- ---- a piece, chunk by chunk

shifted_cost : (s t : Cell) (d k : ℕ) → chunk_cost (beside s d) (beside t d) k ≡ chunk_cost s t k
unfolding chunk_cost
shifted_cost s t d k = ap (λ b. cond b (3 * k) 3) (shifted_hazard s t d k)

free_cost : (s t : Cell) (k : ℕ) → has_copy_hazard s t k ≡ false → chunk_cost s t k ≡ 3
unfolding chunk_cost
free_cost s t k free = ap (λ b. cond b (3 * k) 3) free

piece_next : (s t : Cell) (done k : ℕ) → done % 16 ≡ 0 → 1 ≤ k → k ≤ 16 → piece_cost s t (done + k)
    ≡ piece_cost s t done + chunk_cost s t k
piece_next s t done k whole some most = elim (cases_lt k 16) [
  | inl less ↦
      let quotient : (done + k) / 16 ≡ done / 16 = omega (arith, whole, less) in
      let rest : (done + k) % 16 ≡ k = omega (arith, whole, less) in
      let not_all : eqb k 0 ≡ false = grind (arith, nat_tests) in
      rw (quotient, rest, not_all, whole) (omega arith)
  | inr all ↦
      let e : k ≡ 16 = omega (arith, most, all) in
      let quotient : (done + 16) / 16 ≡ done / 16 + 1 = omega (arith, whole) in
      let rest : (done + 16) % 16 ≡ 0 = omega (arith, whole) in
      rw (e, quotient, rest, whole) (omega arith)
]

-- one more chunk of a piece
pub piece_spent : (s t source target : Cell) (done k start now new : ℕ) → source ≡ beside s done
    → target ≡ beside t done
    → done % 16 ≡ 0 → 1 ≤ k → k ≤ 16 → now ≤ start + piece_cost s t done → new ≤ now + chunk_cost source target k
    → new ≤ start + piece_cost s t (done + k)
piece_spent s t source target done k start now new at_s at_t whole some most so_far step =
    let price : chunk_cost source target k ≡ chunk_cost s t k =
    ap (λ (cell : Cell). chunk_cost cell target k) at_s ∙ ap (λ (cell : Cell). chunk_cost (beside s done) cell k) at_t
    ∙ shifted_cost s t done k in
    let sum = piece_next s t done k whole some most in
    omega (arith, price, sum, so_far, step)

-- a chunk that is copied at once
pub free_spent : (s t source target : Cell) (done k start now new : ℕ) → source ≡ beside s done → target ≡ beside t done
    → has_copy_hazard source target k ≡ false → done % 16 ≡ 0 → 1 ≤ k → k ≤ 16 → now ≤ start + piece_cost s t done
    → new ≤ now + 3
    → new ≤ start + piece_cost s t (done + k)
free_spent s t source target done k start now new at_s at_t free whole some most so_far step =
    let price = free_cost source target k free in
    piece_spent s t source target done k start now new at_s at_t whole some most so_far (omega (arith, price, step))

-- ---- a row, piece by piece

right_on : (s : Cell) (i d : ℕ) → (s.x + i) % 1024 + d < 1024 → right s (i + d) ≡ beside (right s i) d
right_on s i d room = let x : (s.x + (i + d)) % 1024 ≡ (s.x + i) % 1024 + d = omega (arith, room) in rw x refl

-- after d cells of a piece that begins at cell i: their cost, and that a chunk begins there
record IsSpent (s t : Cell) (w i d : ℕ) : Type 0 where
  spent : cost_below s t w (i + d) ≡ cost_below s t w i + piece_cost (right s i) (right t i) d
  begins : i + d < w → begins_chunk s t (i + d) ≡ true

module _ (s t : Cell) (w i n : ℕ) (size : n ≡ piece_len ((s.x + i) % 1024) ((t.x + i) % 1024) (w - i)) where
  step : (d k : ℕ) → IsSpent s t w i d → d % 16 ≡ 0 → 1 ≤ k → k ≡ min 16 (n - d) → IsSpent s t w i (d + k)
  step d k before whole some few =
      let room_s : (s.x + i) % 1024 + d < 1024 = omega (arith, size, some, few) in
      let room_t : (t.x + i) % 1024 + d < 1024 = omega (arith, size, some, few) in
      let here_s : (s.x + (i + d)) % 1024 ≡ (s.x + i) % 1024 + d = omega (arith, room_s) in
      let here_t : (t.x + (i + d)) % 1024 ≡ (t.x + i) % 1024 + d = omega (arith, room_t) in
      let long : k ≡ chunk_at s t w (i + d) = rw (here_s, here_t) (omega (arith, size, some, few)) in
      let begun : begins_chunk s t (i + d) ≡ true = before.begins (omega (arith, size, some, few)) in
      let sum : i + (d + k) ≡ i + d + k = omega arith in
      let price : chunk_cost (right s (i + d)) (right t (i + d)) k ≡ chunk_cost (right s i) (right t i) k =
      ap (λ (cell : Cell). chunk_cost cell (right t (i + d)) k) (right_on s i d room_s)
      ∙ ap (λ (cell : Cell). chunk_cost (beside (right s i) d) cell k) (right_on t i d room_t)
      ∙ shifted_cost (right s i) (right t i) d k in
      let chunk = chunk_spent s t w (i + d) k begun long some in
      let piece = piece_next (right s i) (right t i) d k whole some (omega (arith, few)) in
      let so_far = before.spent in
      record {
        spent = ap (cost_below s t w) sum ∙ omega (arith, price, chunk, piece, so_far);
        begins = λ more. ap (begins_chunk s t) sum ∙ behind s t w (i + d) k begun long (omega (arith, more));
      }

  chunks_spent : (c : ℕ) → 16 * c ≤ n → begins_chunk s t i ≡ true → IsSpent s t w i (16 * c)
  chunks_spent zero le begun = record {
    spent = let none : i + 0 ≡ i = omega arith in ap (cost_below s t w) none ∙ omega arith;
    begins = λ more. let none : i + 0 ≡ i = omega arith in ap (begins_chunk s t) none ∙ begun;
  }
  chunks_spent (suc c) le begun =
      let e : 16 * suc c ≡ 16 * c + 16 = omega arith in
      rw e (step (16 * c) 16 (chunks_spent c (omega (arith, le)) begun) (omega arith) (omega arith) (omega (arith, le)))

  whole_piece : begins_chunk s t i ≡ true → IsSpent s t w i n
  whole_piece begun = elim (cases_eq (n % 16) 0) [
    | inl none ↦ let e : n ≡ 16 * (n / 16) = omega (arith, none) in rw e (chunks_spent (n / 16) (omega arith) begun)
    | inr some ↦
        let e : n ≡ 16 * (n / 16) + n % 16 = omega arith in
        rw e (step (16 * (n / 16)) (n % 16) (chunks_spent (n / 16) (omega arith) begun) (omega arith)
        (omega (arith, some)) (omega arith))
  ]

-- one more piece of a row
module _ (s t source target : Cell) (w done n : ℕ) (at_s : source ≡ right s done) (at_t : target ≡ right t done)
    (begun : begins_chunk s t done ≡ true) (long : n ≡ piece_len source.x target.x (w - done)) where
  piece : IsSpent s t w done n
  piece =
      whole_piece s t w done n
      (long
      ∙ ap (λ (cell : Cell). piece_len cell.x target.x (w - done)) at_s
      ∙ ap (λ (cell : Cell). piece_len (right s done).x cell.x (w - done)) at_t)
      begun

  pub row_spent : (start now new : ℕ) → now ≤ start + cost_below s t w done → new ≤ now + piece_cost source target n
      → new ≤ start + cost_below s t w (done + n)
  row_spent start now new so_far step =
      let price : piece_cost source target n ≡ piece_cost (right s done) (right t done) n =
      ap (λ (cell : Cell). piece_cost cell target n) at_s
      ∙ ap (λ (cell : Cell). piece_cost (right s done) cell n) at_t in
      let sum = piece.spent in
      omega (arith, price, sum, so_far, step)

  pub row_begins : done + n < w → begins_chunk s t (done + n) ≡ true
  row_begins more = piece.begins more

-- ---- whole copies

pub row_whole : (s t : Cell) (w done : ℕ) → done ≡ w → cost_below s t w done ≡ row_cost s t w
unfolding row_cost
row_whole s t w done all = ap (cost_below s t w) all

pub copy_cost_is : (height : ℕ) (m : List ℕ) (s t : Cell) (w h : ℕ) → length m ≡ 1024 * height
    → rows_cost height s t w h ≡ copy_cost (height_of m) s t w h
unfolding copy_cost
copy_cost_is height m s t w h long =
    let e : height ≡ length m / 1024 = omega arith in
    ap (λ rows. rows_cost rows s t w h) e
