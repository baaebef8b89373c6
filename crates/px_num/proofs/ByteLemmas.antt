-- Tables of sixteen bytes, and the bytes of halfwords.
use Rattle.std.proofs.Common.{◌≡◌, ◌<◌, ℕ, suc, ◌+◌, ◌*◌, ◌/◌, ◌%◌, ◌^◌, List, [], ◌∷◌, ◌++◌, length, get_or, map, take}
use Rattle.std.proofs.Common.{drop, w8, w16, zero-add, length-append, refl, sym, ap, ◌∙◌, arith}
use lib.Lanes.{Each1}
use lib.Lanes.{digits_l, number_l, pick_l, chunk, zip2}
use mir.Val.{Fits}
use Rattle.std.specs.List.{range_with_len}
use Rattle.std.proofs.lemmas.List.{take_all}
use Rattle.std.proofs.Math.Seq.{drop-append_seam}
use borrow.Rule.Simd.Moves.{SwzOk, swz_l}
use Rattle.std.proofs.lemmas.Simd.{SwzOk-from_below, length-swz_l, get_or-swz_l_below}
use Rattle.std.proofs.lemmas.Simd.{pick_l_left, pick_l-range_with_len, pick_l_whole, Each1-chunk, below_from_Fits}
use Rattle.std.proofs.lemmas.Simd.{get_or-chunk, get_or_narrower}
use Rattle.px_num.specs.Lanes.{EachLane}

each1 : (P : ℕ → Type 0) (xs : List ℕ) → ((i : ℕ) → i < length xs → P (get_or xs i 0)) → Each1 P xs
each1 P [] f = tt
each1 P (x ∷ xs) f = (f 0 (omega arith), each1 P xs (λ i lt. f (suc i) (omega arith)))

-- positions in a table
module _ (table at : List ℕ) (long : length at ≡ 16) (low : EachLane (λ i. get_or at i 0 < 16)) where
  pub table_fits : SwzOk w8 16 16 0 at
  table_fits = SwzOk-from_below w8 16 1 16 0 at refl (omega (arith, long))
      (each1 (λ j. j < 16) at (λ i lt. low i (omega (arith, long))))

  pub table_long : length (swz_l w8 16 table 0 at) ≡ 16
  table_long = length-swz_l w8 16 table 0 at ∙ long

  pub table_at : (i : ℕ) → i < 16 → get_or (swz_l w8 16 table 0 at) i 0 ≡ get_or table (get_or at i 0) 0
  table_at i lt =
      let block : 16 * ((0 + i) / 16) + get_or at i 0 ≡ get_or at i 0 = omega (arith, lt) in
      get_or-swz_l_below w8 16 table 0 at i (omega (arith, long)) (low i lt) ∙ ap (λ k. get_or table k 0) block

-- ---- bytes of halfwords

-- byte i of the first eight halfwords
pub first_byte : (cells : List ℕ) → length cells ≡ 16 → Each1 (Fits w16) cells → (i : ℕ) → i < 16
    → get_or (digits_l 256 16 (number_l 65536 (pick_l 0 (cells ++ cells) (range_with_len 0 8)))) i 0
    ≡ get_or cells (i / 2) 0 / 256 ^ (i % 2) % 256
first_byte cells long fits i lt =
    let same : pick_l 0 (cells ++ cells) (range_with_len 0 8) ≡ chunk 0 8 cells =
    pick_l_left 0 cells cells 16 (range_with_len 0 8) long tt
    ∙ pick_l-range_with_len 0 cells 0 8 (omega (arith, long)) in
    let small = Each1-chunk (λ x. x < 65536) 0 8 cells (below_from_Fits w16 cells fits) in
    let place : i ≡ 2 * (i / 2) + i % 2 = omega arith in
    ap (λ xs. get_or (digits_l 256 16 (number_l 65536 xs)) i 0) same
    ∙ ap (λ n. get_or (digits_l 256 16 (number_l 65536 (chunk 0 8 cells))) n 0) place
    ∙ get_or_narrower 65536 2 256 16 (chunk 0 8 cells) (i / 2) (i % 2) refl small (omega arith) (omega arith)
    ∙ ap (λ h. h / 256 ^ (i % 2) % 256)
    (get_or-chunk 0 8 cells (i / 2) 0 (omega arith) ∙ ap (λ n. get_or cells n 0) (zero-add (i / 2)))

-- the elements of two lists, alternating
abbrev pub woven : List ℕ → List ℕ → List ℕ
woven [] ys = []
woven (x ∷ xs) [] = []
woven (x ∷ xs) (y ∷ ys) = x ∷ y ∷ woven xs ys

map-woven : (f : ℕ → ℕ) (xs ys : List ℕ) → map f (woven xs ys) ≡ woven (map f xs) (map f ys)
map-woven f [] ys = refl
map-woven f (x ∷ xs) [] = refl
map-woven f (x ∷ xs) (y ∷ ys) = ap (λ l. f x ∷ f y ∷ l) (map-woven f xs ys)

digits_woven : (xs ys : List ℕ) → length xs ≡ length ys → Each1 (λ a. a < 256) xs → Each1 (λ a. a < 256) ys
    → digits_l 65536 (length xs) (number_l 256 (woven xs ys)) ≡ zip2 (λ a b. a + 256 * b) xs ys
digits_woven [] ys long small_x small_y = refl
digits_woven (x ∷ xs) [] long small_x small_y = absurd (omega arith)
digits_woven (x ∷ xs) (y ∷ ys) long small_x small_y =
    let r : ℕ = number_l 256 (woven xs ys) in
    let below_x = small_x.0 in
    let below_y = small_y.0 in
    let head : (x + 256 * (y + 256 * r)) % 65536 ≡ x + 256 * y = omega arith in
    let tail : (x + 256 * (y + 256 * r)) / 65536 ≡ r = omega arith in
    rw (head, tail, digits_woven xs ys (omega arith) small_x.1 small_y.1) refl

-- halfwords with these low and high bytes
pub joined_is : (low high : List ℕ) → length low ≡ 16 → length high ≡ 16 → EachLane (λ i. get_or low i 0 < 256)
    → EachLane (λ i. get_or high i 0 < 256)
    → digits_l 65536 16
    (number_l 256 (pick_l 0 (low ++ high) (woven (range_with_len 0 16) (range_with_len 16 16))))
    ≡ zip2 (λ a b. a + 256 * b) low high
joined_is low high long_l long_h small_l small_h =
    let lows : pick_l 0 (low ++ high) (range_with_len 0 16) ≡ low =
    pick_l_left 0 low high 16 (range_with_len 0 16) long_l tt ∙ pick_l_whole 0 low 16 long_l in
    let highs : pick_l 0 (low ++ high) (range_with_len 16 16) ≡ high =
    pick_l-range_with_len 0 (low ++ high) 16 16 (omega (arith, long_l, long_h, length-append low high))
    ∙ ap (λ n. take 16 (drop n (low ++ high))) (sym long_l) ∙ ap (take 16) (drop-append_seam low high)
    ∙ take_all 16 high (omega (arith, long_h)) in
    ap (λ l. digits_l 65536 16 (number_l 256 l))
    (map-woven (λ k. get_or (low ++ high) k 0) (range_with_len 0 16) (range_with_len 16 16)
    ∙ ap (λ l. woven l (pick_l 0 (low ++ high) (range_with_len 16 16))) lows ∙ ap (woven low) highs)
    ∙ ap (λ n. digits_l 65536 n (number_l 256 (woven low high))) (sym long_l)
    ∙ digits_woven low high (long_l ∙ sym long_h) (each1 (λ a. a < 256) low (λ i lt. small_l i (omega (arith, long_l))))
    (each1 (λ a. a < 256) high (λ i lt. small_h i (omega (arith, long_h))))
