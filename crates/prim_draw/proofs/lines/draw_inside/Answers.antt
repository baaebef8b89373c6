use Rattle.std.proofs.Common.{SFits, w32, rules, arith}
use Rattle.std.proofs.lemmas.Int.{to_z-of_z, ints}
use Rattle.prim_draw.specs.Lines.{drawn_point}
use Rattle.prim_draw.proofs.PointLemmas.{columns_of, rows_of}
use Rattle.prim_draw.proofs.lines.draw_inside.Goals as goal

pub overflow_cast-to : goal.overflow_cast-to
overflow_cast-to g c =
    let h = columns_of c.args.area.now c.args.point.now c.requires.inside in
    let area = c.requires.area in
    let fits : SFits w32 c.args.point.now.x = search rules in
    simp to_z-of_z (omega (arith, ints, h.from, area.left), omega (arith, ints, h.from, h.to, area.left, area.right))

pub overflow_cast-to-2 : goal.overflow_cast-to-2
overflow_cast-to-2 g c =
    let h = rows_of c.args.area.now c.args.point.now c.requires.inside in
    let area = c.requires.area in
    let fits : SFits w32 c.args.point.now.y = search rules in
    simp to_z-of_z
    (omega (arith, ints, h.from, area.top), omega (arith, ints, h.from, h.to, area.top, area.bottom, area.reach))

pub plot_color-requires-clause-in_row : goal.plot_color-requires-clause-in_row
plot_color-requires-clause-in_row g c =
    let h = columns_of c.args.area.now c.args.point.now c.requires.inside in
    let area = c.requires.area in
    let fits : SFits w32 c.args.point.now.x = search rules in
    simp to_z-of_z (omega (arith, ints, h.from, h.to, area.left, area.right))

pub plot_color-requires-clause-in_height : goal.plot_color-requires-clause-in_height
plot_color-requires-clause-in_height g c =
    let h = rows_of c.args.area.now c.args.point.now c.requires.inside in
    let area = c.requires.area in
    let fits : SFits w32 c.args.point.now.y = search rules in
    simp to_z-of_z (omega (arith, ints, h.from, h.to, area.top, area.bottom, area.reach))

pub returns-clause-cells : goal.returns-clause-cells
unfolding drawn_point
returns-clause-cells g c =
    let p = c.args.point.now in
    let x_fits : SFits w32 p.x = search rules in
    let y_fits : SFits w32 p.y = search rules in
    rw c.requires.inside (simp to_z-of_z at c.plot_color.ensures.cells)
