-- Sums, part by part.
use Rattle.std.proofs.Common.{◌≡◌, ◌+◌, ◌*◌, ◌-◌, ℕ, List, take, drop, arith, refl, ap, ◌∙◌, slice_range}
use Rattle.std.specs.List.{sum}
use Rattle.std.proofs.lemmas.List.{drop-drop}
use Rattle.std.proofs.lemmas.List.Sums.{sum_by-append}
use Rattle.std.proofs.Math.Seq.{take-add}

-- n more numbers
sum_more : (m : List ℕ) (i n : ℕ) → sum (take (i + n) m) ≡ sum (take i m) + sum (take n (drop i m))
sum_more m i n = ap sum (take-add i n m) ∙ sum_by-append (λ x. x) (take i m) (take n (drop i m))

-- sixteen more cells of a row
pub lanes_more : (m lanes : List ℕ) (start k : ℕ) → lanes ≡ take 16 (drop (start + 16 * k) m)
    → sum (take (16 * (k + 1)) (drop start m)) ≡ sum (take (16 * k) (drop start m)) + sum lanes
lanes_more m lanes start k loaded =
    let e : 16 * (k + 1) ≡ 16 * k + 16 = omega arith in
    rw (e, loaded)
    (sum_more (drop start m) (16 * k) 16 ∙ ap (λ xs. sum (take (16 * k) (drop start m)) + sum (take 16 xs))
    (drop-drop (16 * k) start m))

row_is : (m : List ℕ) (y : ℕ) → slice_range m (1024 * y) (1024 * y + 1024) ≡ take 1024 (drop (1024 * y) m)
row_is m y = let e : 1024 * y + 1024 - 1024 * y ≡ 1024 = omega arith in rw e refl

row_more : (m : List ℕ) (y : ℕ)
    → sum (take (1024 * (y + 1)) m) ≡ sum (take (1024 * y) m) + sum (slice_range m (1024 * y) (1024 * y + 1024))
row_more m y =
    let e : 1024 * (y + 1) ≡ 1024 * y + 1024 = omega arith in
    rw (e, row_is m y) (sum_more m (1024 * y) 1024)

-- one more row of these cells
pub sum_on : (m cells : List ℕ) (y total row : ℕ) → cells ≡ m → total ≡ sum (take (1024 * y) m)
    → row ≡ sum (slice_range cells (1024 * y) (1024 * y + 1024)) → total + row ≡ sum (take (1024 * (y + 1)) m)
sum_on m cells y total row same before next =
    let next_of : row ≡ sum (slice_range m (1024 * y) (1024 * y + 1024)) = rw (← same) next in
    let more = row_more m y in omega (arith, before, next_of, more)
