use Rattle.std.proofs.Common.{◌∙◌, arith}
use Rattle.std.proofs.lemmas.List.{length-map}
use Rattle.std.specs.Prelude.{slice_index_or, pos}
use Rattle.px_num.specs.Lanes.{EachLane}
use Rattle.blend_dither.proofs.Offsets.{small_offset}
use Rattle.blend_dither.specs.Color.{IsShift}
use Rattle.span_lanes.proofs.ColorLemmas.{dither_again, read_back}
use Rattle.span_lanes.proofs.attributes.color_lanes.dithered.Goals as goal

pub returns-clause-small : goal.returns-clause-small
returns-clause-small c =
    let row = c.dither_row.ensures in
    let small : EachLane (λ i. IsShift (slice_index_or c.dither_row.result i (pos 0))) =
    λ i lt. rw (row.value i lt) (small_offset _ (omega arith)) in
    record {
      long = simp length-map row.long;
      small = λ i lt. rw (read_back c.dither_row.result row.long small i lt) (small i lt);
    }

pub returns-clause-value : goal.returns-clause-value
returns-clause-value c i lt =
    let row = c.dither_row.ensures in
    let small : EachLane (λ i. IsShift (slice_index_or c.dither_row.result i (pos 0))) =
    λ i lt. rw (row.value i lt) (small_offset _ (omega arith)) in
    read_back c.dither_row.result row.long small i lt ∙ row.value i lt ∙ dither_again c.args.x c.args.y i
