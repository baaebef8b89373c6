use Rattle.std.proofs.Common.{ap}
use Rattle.span_lanes.specs.Shade.{texture_of}
use Rattle.span_lanes.specs.declared.span.DrawState.{DrawState}
use Rattle.span_lanes.proofs.rows.triangle.TriangleDrawer.new.Goals as goal

pub returns-clause-free : goal.returns-clause-free
returns-clause-free g c = record {
  t = c.args.texture.now;
  texture = ap (λ (state : DrawState). texture_of state.paint) c.empty_span.ensures;
  hazard_free = c.requires.hazard_free;
}
