-- The pixels of a picture with an alpha.
use Rattle.std.proofs.Common.{◌≡◌, ◌≤◌, ◌+◌, ◌-◌, ◌*◌, ◌++◌, ◌∷◌, [], ◌∙◌, ℕ, zero, suc, List, refl, ap, arith}
use Rattle.std.proofs.Common.{length, take, drop, slice_range, add-one}
use Rattle.std.proofs.Common.{length-append, length-drop}
use Rattle.std.proofs.lemmas.Grind.{common_steps}
use Rattle.std.proofs.lemmas.Slice.{take-put_mid}
use Rattle.std.proofs.Math.Seq.{drop-append_seam}
use borrow.Rule.Slice.PartMut.{put_mid}
use Rattle.gp1_status.specs.Registers.{Registers}
use Rattle.picture_out.specs.Picture.{display_of, pixels_from, picture_head, picture_of}
use Rattle.psxgpu_c.specs.Shown.{with_alpha}
use Rattle.psxgpu_c.proofs.Capacity.{length_pixels}

-- one more pixel
pub alpha_more : (bytes out part : List ℕ) (k w : ℕ) → take (4 * k) out ≡ with_alpha bytes k
    → part ≡ slice_range bytes (3 * k) (3 * k + 3) ++ 255 ∷ [] → 4 * k ≤ length out → length part ≡ 4
    → take (4 * (k + 1)) (put_mid (4 * k) w out part) ≡ with_alpha bytes (k + 1)
alpha_more bytes out part k w so_far is le long =
    let e : 3 * k + 3 - 3 * k ≡ 3 = omega arith in
    rw (take-put_mid (4 * k) w out part (4 * (k + 1)) (omega (arith, long)) le, so_far, is, add-one, e) refl

-- four bytes per pixel
pub length_alpha : (bytes : List ℕ) (n : ℕ) → 3 * n ≤ length bytes → length (with_alpha bytes n) ≡ 4 * n
length_alpha bytes zero le = refl
length_alpha bytes (suc n) le =
    let before : 3 * n ≤ length bytes = omega (arith, le) in
    let so_far = length_alpha bytes n before in
    let rest : 3 ≤ length (drop (3 * n) bytes) = simp length-drop (omega (arith, le)) in
    grind (arith, common_steps)

-- a picture has three bytes per pixel and more, and the last of them are its pixels
pub picture_long : (m : List ℕ) (regs : Registers) (shape : ℕ × ℕ) (bytes : List ℕ)
    → bytes ≡ picture_of m (display_of regs shape) → 3 * (shape.0 * shape.1) ≤ length bytes
unfolding picture_of
picture_long m regs shape bytes is =
    let shown = display_of regs shape in
    let n = shape.0 * shape.1 in
    let long = length_pixels m regs shape 0 n in
    let whole = ap (λ (xs : List ℕ). length xs) is ∙ length-append (picture_head shown) (pixels_from m shown 0 n) in
    omega (arith, long, whole)

pub pixels_last : (m : List ℕ) (regs : Registers) (shape : ℕ × ℕ) (bytes : List ℕ)
    → bytes ≡ picture_of m (display_of regs shape)
    → drop (length bytes - 3 * (shape.0 * shape.1)) bytes ≡ pixels_from m (display_of regs shape) 0 (shape.0 * shape.1)
unfolding picture_of
pixels_last m regs shape bytes is =
    let shown = display_of regs shape in
    let n = shape.0 * shape.1 in
    let long = length_pixels m regs shape 0 n in
    let whole = ap (λ (xs : List ℕ). length xs) is ∙ length-append (picture_head shown) (pixels_from m shown 0 n) in
    let e : length bytes - 3 * n ≡ length (picture_head shown) = omega (arith, long, whole) in
    rw (e, is) (drop-append_seam (picture_head shown) (pixels_from m shown 0 n))

pub length_rgba : (m : List ℕ) (regs : Registers) (shape : ℕ × ℕ)
    → length (with_alpha (pixels_from m (display_of regs shape) 0 (shape.0 * shape.1)) (shape.0 * shape.1))
    ≡ 4 * (shape.0 * shape.1)
length_rgba m regs shape =
    let n = shape.0 * shape.1 in
    let long = length_pixels m regs shape 0 n in
    length_alpha (pixels_from m (display_of regs shape) 0 n) n (omega (arith, long))
