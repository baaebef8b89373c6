use Rattle.std.proofs.Common.{◌∙◌, sym, ap}
use Rattle.edge_walk.specs.Triangle.{corners, oriented}
use Rattle.edge_walk.proofs.Corner.{oriented_turned, oriented_kept, upright_turned}
use Rattle.edge_walk.proofs.triangle.Tri.oriented_triangle.Goals as goal

pub invariant_of-result : goal.invariant_of-result
invariant_of-result c =
    let t = c.self.inside in
    record {
      oriented_triangle = upright_turned (corners t.a t.b t.c) c.self.invariant.drawn
          (sym c.if-self.true ∙ c.self.invariant.turned_is);
    }

pub returns-then-self-clause-same : goal.returns-then-self-clause-same
returns-then-self-clause-same c =
    let t = c.self.inside in
    oriented_turned (corners t.a t.b t.c) (sym c.if-self.true ∙ c.self.invariant.turned_is) ∙ ap oriented c.self.view_is

pub returns-clause-same : goal.returns-clause-same
returns-clause-same c =
    let t = c.self.inside in
    oriented_kept (corners t.a t.b t.c) (sym c.if-self.false ∙ c.self.invariant.turned_is) ∙ ap oriented c.self.view_is
