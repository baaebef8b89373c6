use Rattle.std.proofs.Common.{refl, sym, subst}
use Rattle.edge_walk.specs.Walk.{AreRows}
use Rattle.span_lanes.proofs.WalkLemmas.{box_is, has_rows}
use Rattle.span_lanes.proofs.figures.triangle.ClippedTriangle.rows.Goals as goal

pub rows-requires : goal.rows-requires
rows-requires c = has_rows _ _ c.requires.small c.requires.inside

pub returns : goal.returns
returns c =
    let clip = c.args.self.now.clip.now in
    let box = box_is clip c.requires.small in
    record {
      tri = refl;
      clip_rect = c.requires.clip_rect;
      stand = record {
        on_screen = c.requires.small;
        clip_rect = c.requires.clip_rect;
        stands = subst (λ y. AreRows c.args.self.now.tri.now clip y c.rows.result) (sym box.top) c.rows.ensures;
      };
    }
