use Rattle.span_lanes.proofs.ColorLemmas.{red_mixed, green_mixed, blue_mixed}
use Rattle.span_lanes.proofs.attributes.shading.line_colors.Goals as goal

pub returns : goal.returns
returns c =
    let r = c.lanes.ensures in
    let g = c.lanes-2.ensures in
    let b = c.lanes-3.ensures in
    record {
      reds = record { long = r.long; bytes = r.bytes };
      greens = record { long = g.long; bytes = g.bytes };
      blues = record { long = b.long; bytes = b.bytes };
      red = λ j lt. rw (← r.value j lt, ← g.value j lt, ← b.value j lt) (red_mixed _ _ _ (r.bytes j lt));
      green = λ j lt. rw (← r.value j lt, ← g.value j lt, ← b.value j lt)
          (green_mixed _ _ _ (r.bytes j lt) (g.bytes j lt));
      blue = λ j lt. rw (← r.value j lt, ← g.value j lt, ← b.value j lt)
          (blue_mixed _ _ _ (r.bytes j lt) (g.bytes j lt) (b.bytes j lt));
    }
