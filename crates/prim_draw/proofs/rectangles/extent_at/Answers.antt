use Rattle.std.proofs.Common.{◌≡◌, ◌+ℤ◌, SFits, w32, rules, refl, ap, arith}
use Rattle.std.proofs.lemmas.Int.{to_z-of_z, ints}
use Rattle.gp1_status.specs.Drawing.{offset_x, offset_y}
use Rattle.gp1_status.specs.declared.regs.drawing.Offset.{Offset}
use Rattle.prim_draw.specs.Rectangles.{extent_at}
use Rattle.prim_draw.proofs.rectangles.extent_at.Goals as goal

pub returns-clause-value : goal.returns-clause-value
unfolding extent_at
returns-clause-value c =
    let r = c.args.regs.now in
    let offset = c.drawing_offset-offset.result in
    let is = c.drawing_offset-offset.ensures.is in
    let x_fits : SFits w32 c.args.x = search rules in
    let y_fits : SFits w32 c.args.y = search rules in
    let across_fits : SFits w32 offset.x = omega (arith, ints, is.left, is.right) in
    let down_fits : SFits w32 offset.y = omega (arith, ints, is.top, is.bottom) in
    let sum_x_fits : SFits w32 (c.args.x +ℤ offset.x) = omega
    (arith, ints, c.requires.place.left, c.requires.place.right, is.left, is.right) in
    let sum_y_fits : SFits w32 (c.args.y +ℤ offset.y) = omega
    (arith, ints, c.requires.place.top, c.requires.place.bottom, is.top, is.bottom) in
    let across : offset.x ≡ offset_x r = ap (λ (o : Offset). o.x) c.drawing_offset-offset.ensures.value in
    let down : offset.y ≡ offset_y r = ap (λ (o : Offset). o.y) c.drawing_offset-offset.ensures.value in
    simp to_z-of_z (rw (across, down) refl)
