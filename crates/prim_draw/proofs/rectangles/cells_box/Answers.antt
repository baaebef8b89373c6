use Rattle.std.proofs.Common.{◌≡◌, ◌+ℤ◌, ◌-ℤ◌, pos, to_z, w32, SFits, refl, arith, rules}
use Rattle.std.proofs.lemmas.Int.{to_z-of_z, ints}
use Rattle.prim_draw.proofs.rectangles.cells_box.Goals as goal

pub returns : goal.returns
returns c =
    let e = c.args.extent.now in
    let near = c.requires.is in
    let wide : to_z w32 e.w ≡ pos e.w = omega (arith, ints) in
    let high : to_z w32 e.h ≡ pos e.h = omega (arith, ints) in
    let left : SFits w32 e.left = search rules in
    let top : SFits w32 e.top = search rules in
    let right : SFits w32 (e.left +ℤ pos e.w) = omega (arith, ints, near.left, near.right) in
    let bottom : SFits w32 (e.top +ℤ pos e.h) = omega (arith, ints, near.top, near.bottom) in
    let last : SFits w32 (e.left +ℤ pos e.w -ℤ pos 1) = omega (arith, ints, near.left, near.right) in
    let lowest : SFits w32 (e.top +ℤ pos e.h -ℤ pos 1) = omega (arith, ints, near.top, near.bottom) in
    rw (wide, high) (simp to_z-of_z refl)
