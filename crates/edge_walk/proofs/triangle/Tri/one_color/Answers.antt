use Rattle.std.proofs.Common.{◌∙◌, refl, sym}
use Rattle.edge_walk.proofs.Corner.{inside_is}
use Rattle.edge_walk.proofs.ColorLemmas.{same_color}
use Rattle.edge_walk.proofs.triangle.Tri.one_color.Goals as goal

pub returns-then-t-color-2-clause-value : goal.returns-then-t-color-2-clause-value
returns-then-t-color-2-clause-value c x y inside =
    let t = c.oriented_triangle-t.result in
    same_color t.a t.b t.c c.args.self.now _ x y c.oriented_triangle-t.ensures.same t.oriented_triangle
    (sym (inside_is c.args.self.now t.a t.b t.c c.oriented_triangle-t.ensures.same x y) ∙ inside) refl c.if-t-color.true
    c.if-t-color-2.true
