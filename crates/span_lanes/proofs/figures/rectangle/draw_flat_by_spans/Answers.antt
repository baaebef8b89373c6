use Rattle.std.proofs.Common.{ap}
use Rattle.vram_store.specs.Vram.{height_of}
use Rattle.span_lanes.specs.Pattern.{uniform}
use Rattle.span_lanes.specs.Figures.SolidColor.{flat_state}
use Rattle.span_lanes.specs.declared.span.DrawState.{DrawState}
use Rattle.span_lanes.proofs.RectangleLemmas.{flat_paints}
use Rattle.span_lanes.proofs.figures.rectangle.draw_flat_by_spans.Goals as goal

pub draw_rows-requires-clause-fresh : goal.draw_rows-requires-clause-fresh
draw_rows-requires-clause-fresh g c =
    (c.new-drawer.ensures.ready, c.new-drawer.ensures.fresh c.args.vram.now)

pub returns : goal.returns
returns g c =
    c.draw_rows.ensures (uniform (flat_state c.args.color c.args.brush.now))
    (λ y run whole. flat_paints c.args.color c.args.brush.now c.args.clip_rect.now (height_of c.args.vram.now) _ y run
    c.requires whole (ap (λ (state : DrawState). uniform state) c.new-drawer.ensures.state))
