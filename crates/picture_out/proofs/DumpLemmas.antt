-- The bytes of consecutive parts of a list of cells.
use Rattle.std.proofs.Common.{◌≡◌, ◌≤◌, ◌+◌, ◌*◌, ◌-◌, ◌++◌, ℕ, List, length, take, drop, arith, refl, ap, sym}
use Rattle.std.proofs.Common.{subst, ◌∙◌, slice_range}
use Rattle.std.proofs.lemmas.Grind.{flat_map-append, common_steps}
use Rattle.std.proofs.lemmas.List.{drop-drop, take-append-drop, take_all}
use Rattle.std.proofs.lemmas.Slice.{take-put_mid}
use Rattle.std.proofs.Math.Seq.{take-add}
use borrow.Rule.Slice.PartMut.{put_mid}
use Rattle.picture_out.specs.Dump.{dump, cell_bytes}

-- the bytes of the first i cells and of the next n
pub dump_more : (m : List ℕ) (i n : ℕ) → dump (take (i + n) m) ≡ dump (take i m) ++ dump (take n (drop i m))
dump_more m i n = ap dump (take-add i n m) ∙ flat_map-append cell_bytes (take i m) (take n (drop i m))

pub row_more : (m bytes part lanes : List ℕ) (start k w : ℕ) → take (32 * k) bytes ≡ dump (take (16 * k) (drop start m))
    → part ≡ dump lanes → lanes ≡ take 16 (drop (start + 16 * k) m) → 32 * k ≤ length bytes → length part ≡ 32
    → take (32 * (k + 1)) (put_mid (32 * k) w bytes part) ≡ dump (take (16 * (k + 1)) (drop start m))
row_more m bytes part lanes start k w so_far is loaded le long =
    let e : 16 * (k + 1) ≡ 16 * k + 16 = omega arith in
    rw (take-put_mid (32 * k) w bytes part (32 * (k + 1)) (omega (arith, long)) le, so_far, is, loaded, e)
    (ap (λ xs. dump (take (16 * k) (drop start m)) ++ dump (take 16 xs)) (sym (drop-drop (16 * k) start m))
    ∙ sym (dump_more (drop start m) (16 * k) 16))

row_is : (m : List ℕ) (y : ℕ) → slice_range m (1024 * y) (1024 * y + 1024) ≡ take 1024 (drop (1024 * y) m)
row_is m y = let e : 1024 * y + 1024 - 1024 * y ≡ 1024 = omega arith in rw e refl

pub whole_row : (m bytes : List ℕ) (y k : ℕ) → take (32 * k) bytes ≡ dump (take (16 * k) (drop (1024 * y) m)) → k ≡ 64
    → length bytes ≡ 2048 → bytes ≡ dump (slice_range m (1024 * y) (1024 * y + 1024))
whole_row m bytes y k so_far all long =
    let all_of : take (32 * k) bytes ≡ bytes = take_all (32 * k) bytes (omega (arith, all, long)) in
    let e : 16 * k ≡ 1024 = omega (arith, all) in
    let P : ℕ → Type 0 = λ n. take (32 * k) bytes ≡ dump (take n (drop (1024 * y) m)) in
    rw (row_is m y) (sym all_of ∙ subst P e so_far)

-- the bytes of the first y rows and of the next one
pub row_on : (m bytes : List ℕ) (y : ℕ) → bytes ≡ dump (slice_range m (1024 * y) (1024 * y + 1024))
    → dump (take (1024 * (y + 1)) m) ≡ dump (take (1024 * y) m) ++ bytes
row_on m bytes y row =
    let e : 1024 * (y + 1) ≡ 1024 * y + 1024 = omega arith in
    rw (e, dump_more m (1024 * y) 1024, ← row_is m y, ← row) refl

-- the rows before row y, row y, and the rows after it
pub dump_three : (m : List ℕ) (y : ℕ)
    → dump m ≡ dump (take (1024 * y) m) ++
    (dump (slice_range m (1024 * y) (1024 * y + 1024)) ++ dump (drop 1024 (drop (1024 * y) m)))
dump_three m y =
    rw (row_is m y)
    (ap dump (sym (take-append-drop (1024 * y) m)) ∙ flat_map-append cell_bytes (take (1024 * y) m) (drop (1024 * y) m)
    ∙ ap (λ bytes. dump (take (1024 * y) m) ++ bytes)
    (ap dump (sym (take-append-drop 1024 (drop (1024 * y) m)))
    ∙ flat_map-append cell_bytes (take 1024 (drop (1024 * y) m)) (drop 1024 (drop (1024 * y) m))))

pub length_put_mid : (xs ys : List ℕ) (a k : ℕ) → a + k ≤ length xs → length ys ≡ k → length (put_mid a k xs ys)
    ≡ length xs
length_put_mid xs ys a k le long = grind (arith, common_steps)
