-- Consecutive parts of the pixels of a picture.
use Rattle.std.proofs.Common.{◌≡◌, ◌≤◌, ◌<◌, ◌+◌, ◌-◌, ◌*◌, ◌/◌, ◌%◌, ◌++◌, ◌∙◌, ℕ, zero, suc, List, refl, ap, sym}
use Rattle.std.proofs.Common.{append_assoc, arith}
use Rattle.std.proofs.Common.{length, take, drop, slice_set, slice_index_or, add-one, length-drop, Bool, true, false}
use Rattle.std.proofs.Common.{if◌then◌else◌}
use Rattle.std.proofs.lemmas.Grind.{common_steps}
use Rattle.std.proofs.lemmas.List.{append-nil, length-take-le}
use Rattle.std.proofs.lemmas.Slice.{take-put_mid}
use borrow.Rule.Slice.PartMut.{put_mid}
use Rattle.std.proofs.lemmas.Nat.{div-add-mod', div-mul-add, mod-mul-add}
use Rattle.std.proofs.Math.Nat.{mul-le-mul_right, add-mul, mod-mod}
use Rattle.vram_store.specs.Vram.{height_of}
use Rattle.picture_out.specs.Picture.{pixels_from, numbered_pixel, row_pixel}
use Rattle.picture_out.specs.declared.picture.DisplayArea.{DisplayArea}

-- the first n pixels, and those after them
pub pixels_split : (m : List ℕ) (shown : DisplayArea) (first n rest all : ℕ) → all ≡ n + rest
    → pixels_from m shown first all ≡ pixels_from m shown first n ++ pixels_from m shown (first + n) rest
pixels_split m shown first n zero all is =
    let e : all ≡ n = omega (arith, is) in
    rw e (sym (append-nil (pixels_from m shown first n)))
pixels_split m shown first n (suc rest) all is =
    let e : all ≡ suc (n + rest) = omega (arith, is) in
    let a : first + (n + rest) ≡ first + n + rest = omega arith in
    rw (e, a, pixels_split m shown first n rest (n + rest) refl)
    (append_assoc (pixels_from m shown first n) (pixels_from m shown (first + n) rest)
    (numbered_pixel m shown (first + n + rest)))

-- the next n pixels, whose bytes are given, and those after them
pub pixels_next : (m : List ℕ) (shown : DisplayArea) (done n all : ℕ) (bytes : List ℕ) → n ≤ all - done
    → bytes ≡ pixels_from m shown done n
    → pixels_from m shown done (all - done) ≡ bytes ++ pixels_from m shown (done + n) (all - (done + n))
pixels_next m shown done n all bytes le is =
    let e : all - done ≡ n + (all - (done + n)) = omega (arith, le) in
    rw is (pixels_split m shown done n (all - (done + n)) (all - done) e)

-- the steps of the first `done` pixels and of n more
pub cost_more : (before mid now done n cells : ℕ) → mid ≡ before + done * cells → now ≡ mid + n * cells
    → now ≡ before + (done + n) * cells
cost_more before mid now done n cells so_far more =
    let e : (done + n) * cells ≡ done * cells + n * cells = add-mul done n cells in
    omega (arith, so_far, more, e)

-- the steps of some pixels are at most those of all
pub cost_part : (before now done all cells : ℕ) → done ≤ all → now ≡ before + done * cells → now ≤ before + all * cells
cost_part before now done all cells le is = let most = mul-le-mul_right cells le in omega (arith, is, most)

-- the header, the first `done` pixels, and n more
pub pixels_on : (m : List ℕ) (shown : DisplayArea) (head bytes : List ℕ) (done n : ℕ)
    → bytes ≡ pixels_from m shown done n
    → (head ++ pixels_from m shown 0 done) ++ bytes ≡ head ++ pixels_from m shown 0 (done + n)
pixels_on m shown head bytes done n is =
    let start : 0 + done ≡ done = omega arith in
    let split = rw start at (pixels_split m shown 0 done n (done + n) refl) in
    append_assoc head (pixels_from m shown 0 done) bytes
    ∙ ap (λ xs. head ++ (pixels_from m shown 0 done ++ xs)) is
    ∙ ap (λ xs. head ++ xs) (sym split)

-- five pieces, one after another
pub five_pieces : (a b c d e : List ℕ) → (((a ++ b) ++ c) ++ d) ++ e ≡ a ++ (b ++ (c ++ (d ++ e)))
five_pieces a b c d e =
    append_assoc ((a ++ b) ++ c) d e ∙ append_assoc (a ++ b) c (d ++ e) ∙ append_assoc a b (c ++ (d ++ e))

-- a row of video memory wraps once
pub wrapped_row : (m : List ℕ) (shown : DisplayArea) (row i : ℕ)
    → row_pixel m shown (row % height_of m) i ≡ row_pixel m shown row i
wrapped_row m shown row i = let twice : row % height_of m % height_of m ≡ row % height_of m =
    mod-mod row (height_of m) in rw twice refl

-- a pixel of the same row as the first one
pub pixel_in_row : (m : List ℕ) (shown : DisplayArea) (first i : ℕ) → first % shown.width + i < shown.width
    → numbered_pixel m shown (first + i)
    ≡ row_pixel m shown ((shown.y + first / shown.width) % height_of m) (first % shown.width + i)
unfolding numbered_pixel
pixel_in_row m shown first i lt =
    let whole : first / shown.width * shown.width + first % shown.width ≡ first = div-add-mod' first shown.width in
    let e : first + i ≡ first / shown.width * shown.width + (first % shown.width + i) = omega (arith, whole) in
    rw (
      e,
      div-mul-add (first / shown.width) shown.width (first % shown.width + i) lt,
      mod-mul-add (first / shown.width) shown.width (first % shown.width + i) lt,
      wrapped_row m shown (shown.y + first / shown.width) (first % shown.width + i),
    ) refl

-- the pixel after the first i
next_pixel : (m : List ℕ) (shown : DisplayArea) (first i : ℕ)
    → pixels_from m shown first (i + 1) ≡ pixels_from m shown first i ++ numbered_pixel m shown (first + i)
next_pixel m shown first i = rw add-one refl

-- three bytes, stored one after another
pub three_more : (bytes before pixel : List ℕ) (i : ℕ) → take (3 * i) bytes ≡ before → length pixel ≡ 3
    → 3 * i + 3 ≤ length bytes
    → take (3 * (i + 1)) (slice_set (slice_set (slice_set bytes (3 * i) (slice_index_or pixel 0 0)) (3 * i + 1)
    (slice_index_or pixel 1 0)) (3 * i + 2) (slice_index_or pixel 2 0)) ≡ before ++ pixel
three_more bytes before pixel i so_far long le = grind (arith, common_steps)

-- the bytes of n pixels, put after those of the first `done`
pub pixels_more : (m : List ℕ) (shown : DisplayArea) (first done n w : ℕ) (bytes part : List ℕ)
    → take (3 * done) bytes ≡ pixels_from m shown first done → part ≡ pixels_from m shown (first + done) n
    → length part ≡ 3 * n → 3 * done ≤ length bytes
    → take (3 * (done + n)) (put_mid (3 * done) w bytes part) ≡ pixels_from m shown first (done + n)
pixels_more m shown first done n w bytes part so_far is long le =
    let split = pixels_split m shown first done n (done + n) refl in
    rw (take-put_mid (3 * done) w bytes part (3 * (done + n)) (omega (arith, long)) le, so_far, is, split) refl

either_long : (deep : Bool) (a b : List ℕ) → length a ≡ 3 → length b ≡ 3 → length (if deep then a else b) ≡ 3
either_long true a b first second = first
either_long false a b first second = second

-- a pixel has three bytes
pub pixel_long : (m : List ℕ) (shown : DisplayArea) (row i : ℕ) → length (row_pixel m shown row i) ≡ 3
pixel_long m shown row i = either_long shown.is_deep _ _ refl refl

-- the bytes of one pixel, stored after those of the first i
pub pixel_more : (m : List ℕ) (shown : DisplayArea) (first i : ℕ) (bytes pixel : List ℕ)
    → take (3 * i) bytes ≡ pixels_from m shown first i → pixel ≡ numbered_pixel m shown (first + i) → length pixel ≡ 3
    → 3 * i + 3 ≤ length bytes
    → take (3 * (i + 1)) (slice_set (slice_set (slice_set bytes (3 * i) (slice_index_or pixel 0 0)) (3 * i + 1)
    (slice_index_or pixel 1 0)) (3 * i + 2) (slice_index_or pixel 2 0)) ≡ pixels_from m shown first (i + 1)
pixel_more m shown first i bytes pixel so_far is long le =
    three_more bytes (pixels_from m shown first i) pixel i so_far long le
    ∙ ap (λ xs. pixels_from m shown first i ++ xs) is ∙ sym (next_pixel m shown first i)

-- the length of the part of n pixels after the first `done`
pub part_long : (bytes : List ℕ) (done n : ℕ) → 3 * done + 3 * n ≤ length bytes
    → length (take (3 * done + 3 * n - 3 * done) (drop (3 * done) bytes)) ≡ 3 * n
part_long bytes done n le =
    let e : 3 * done + 3 * n - 3 * done ≡ 3 * n = omega arith in
    let rest : 3 * n ≤ length (drop (3 * done) bytes) = simp length-drop (omega (arith, le)) in
    rw e (length-take-le (3 * n) (drop (3 * done) bytes) rest)

pub part_count : (bytes : List ℕ) (done n : ℕ) → 3 * done + 3 * n ≤ length bytes
    → length (take (3 * done + 3 * n - 3 * done) (drop (3 * done) bytes)) / 3 ≡ n
part_count bytes done n le = let long = part_long bytes done n le in rw long (omega arith)
