-- The lengths of dumps and pictures.
use Rattle.std.proofs.Common.{◌≡◌, ◌≤◌, ◌<◌, ◌+◌, ◌*◌, ◌^◌, ◌++◌, ◌∷◌, [], ℕ, zero, suc, List, Some, length, refl}
use Rattle.std.proofs.Common.{arith, length-append, Bool, true, false, if◌then◌else◌}
use Rattle.std.specs.Prelude.{codes, decimal}
use Rattle.std.proofs.lemmas.Fmt.{length-decimal-le}
use Rattle.gp1_status.specs.Registers.{Registers}
use Rattle.gp1_status.specs.Shape.{shape_of}
use Rattle.picture_out.specs.Dump.{dump}
use Rattle.picture_out.specs.Picture.{display_of, numbered_pixel, picture, picture_head, picture_of}
use Rattle.picture_out.specs.Picture.{pixels_from}

either_long : (deep : Bool) (a b : List ℕ) → length a ≡ 3 → length b ≡ 3 → length (if deep then a else b) ≡ 3
either_long true a b first second = first
either_long false a b first second = second

length_pixel : (m : List ℕ) (regs : Registers) (shape : ℕ × ℕ) (k : ℕ)
    → length (numbered_pixel m (display_of regs shape) k) ≡ 3
unfolding numbered_pixel
length_pixel m regs shape k = either_long (display_of regs shape).is_deep _ _ refl refl

-- three bytes per pixel
pub length_pixels : (m : List ℕ) (regs : Registers) (shape : ℕ × ℕ) (first n : ℕ)
    → length (pixels_from m (display_of regs shape) first n) ≡ 3 * n
length_pixels m regs shape first zero = refl
length_pixels m regs shape first (suc n) =
    let shown = display_of regs shape in
    let one = length_pixel m regs shape (first + n) in
    let before = length_pixels m regs shape first n in
    rw (length-append (pixels_from m shown first n) (numbered_pixel m shown (first + n)), before, one) (omega arith)

-- two bytes per cell
pub length_dump : (m : List ℕ) → length (dump m) ≡ 2 * length m
length_dump [] = refl
length_dump (cell ∷ m) = let rest = length_dump m in omega (arith, rest)

-- a header has at most 19 bytes
head_fits : (regs : Registers) (size : ℕ × ℕ) → size.0 < 2 ^ 16 → size.1 < 2 ^ 16
    → length (picture_head (display_of regs size)) ≤ 19
unfolding picture_head
head_fits regs size wide high =
    let w = length-decimal-le 5 size.0 (omega arith) (omega (arith, wide)) (omega (arith, wide)) in
    let h = length-decimal-le 5 size.1 (omega arith) (omega (arith, high)) (omega (arith, high)) in
    let last : List ℕ = decimal size.1 ++ codes "\n255\n" in
    let tail = length-append (decimal size.1) (codes "\n255\n") in
    let front = length-append (decimal size.0) (codes " " ++ last) in
    omega (arith, w, h, tail, front)

-- the bytes of a picture of this size
pub picture_fits : (m : List ℕ) (regs : Registers) (size : ℕ × ℕ) → shape_of regs ≡ Some size → size.0 < 2 ^ 16
    → size.1 < 2 ^ 16 → length (picture m regs) ≤ 3 * (size.0 * size.1) + 19
unfolding picture_of
picture_fits m regs size is wide high =
    let shown = display_of regs size in
    let head = head_fits regs size wide high in
    let long = length_pixels m regs size 0 (size.0 * size.1) in
    let whole = length-append (picture_head shown) (pixels_from m shown 0 (size.0 * size.1)) in
    rw is (omega (arith, head, long, whole))
