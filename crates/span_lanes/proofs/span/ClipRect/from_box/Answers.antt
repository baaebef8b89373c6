use Rattle.std.proofs.Common.{◌≡◌, ◌+◌, ◌-ℤ◌, ◌+ℤ◌, pos, unsigned_abs, w32, SFits, rules, refl, arith}
use Rattle.std.proofs.lemmas.Int.{to_z-of_z, ints}
use Rattle.span_lanes.specs.Figures.Boxes.{clip_rect_of}
use Rattle.span_lanes.proofs.span.ClipRect.from_box.Goals as goal

pub returns-clause-value : goal.returns-clause-value
unfolding clip_rect_of
returns-clause-value c =
    let b = c.args.b.now in
    let r = c.requires in
    let x1 : SFits w32 b.x1 = search rules in
    let y1 : SFits w32 b.y1 = search rules in
    let x2 : SFits w32 b.x2 = search rules in
    let y2 : SFits w32 b.y2 = search rules in
    let across : SFits w32 (b.x2 -ℤ b.x1) = omega (arith, ints, r.left, r.across, r.right) in
    let down : SFits w32 (b.y2 -ℤ b.y1) = omega (arith, ints, r.top, r.down, r.bottom) in
    let across_more : SFits w32 (b.x2 -ℤ b.x1 +ℤ pos 1) = omega (arith, ints, r.left, r.across, r.right) in
    let down_more : SFits w32 (b.y2 -ℤ b.y1 +ℤ pos 1) = omega (arith, ints, r.top, r.down, r.bottom) in
    let w : unsigned_abs (b.x2 -ℤ b.x1 +ℤ pos 1) ≡ unsigned_abs (b.x2 -ℤ b.x1) + 1 = omega (arith, ints, r.across) in
    let h : unsigned_abs (b.y2 -ℤ b.y1 +ℤ pos 1) ≡ unsigned_abs (b.y2 -ℤ b.y1) + 1 = omega (arith, ints, r.down) in
    simp to_z-of_z (rw (w, h) refl)
