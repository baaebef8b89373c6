use Rattle.std.proofs.Common.{◌∙◌, sym}
use Rattle.std.proofs.lemmas.Int.{to_z-of_z}
use Rattle.edge_walk.proofs.Corner.{three_sides}
use Rattle.edge_walk.proofs.InBox.{inside-in_box}
use Rattle.edge_walk.proofs.triangle.Tri.inside.Goals as goal

pub returns-clause-value : goal.returns-clause-value
returns-clause-value c =
    let x_fits = c.ranges.x in
    let y_fits = c.ranges.y in
    let t = c.oriented_triangle-t.result in
    three_sides c.args.self.now t.a t.b t.c c.args.x c.args.y _ _ _ _ c.oriented_triangle-t.ensures.same
    (simp to_z-of_z at c.is_on_side-first.ensures) (simp to_z-of_z at c.is_on_side-second.ensures)
    (simp to_z-of_z at c.is_on_side-third.ensures) c.all_three.ensures

pub returns-clause-in_bounds : goal.returns-clause-in_bounds
returns-clause-in_bounds c h =
    let x_fits = c.ranges.x in
    let y_fits = c.ranges.y in
    let t = c.oriented_triangle-t.result in
    let inside = three_sides c.args.self.now t.a t.b t.c c.args.x c.args.y _ _ _ _ c.oriented_triangle-t.ensures.same
    (simp to_z-of_z at c.is_on_side-first.ensures) (simp to_z-of_z at c.is_on_side-second.ensures)
    (simp to_z-of_z at c.is_on_side-third.ensures) c.all_three.ensures in
    inside-in_box c.args.self.now c.args.x c.args.y c.oriented_triangle-t.ensures.drawn (sym inside ∙ h)
