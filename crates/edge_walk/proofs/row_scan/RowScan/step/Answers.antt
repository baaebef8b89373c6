use Rattle.std.proofs.Common.{arith, pos, ◌+ℤ◌}
use Rattle.std.proofs.lemmas.Int.{ints}
use Rattle.edge_walk.proofs.TurnLemmas.{reached, reached_around, small_around}
use Rattle.edge_walk.specs.Triangle.{oriented}
use Rattle.edge_walk.proofs.row_scan.RowScan.step.Goals as goal

pub returns : goal.returns
returns c t clip y h more =
    let near = reached_around (oriented t) h.around (y +ℤ pos 1) h.turn
    (reached t clip (y +ℤ pos 1) h.small h.box (omega (arith, ints, h.above)) (omega (arith, ints, more))) in
    let small = small_around (oriented t) h.around h.turn h.small in
    record {
      small = h.small;
      around = h.around;
      turn = h.turn;
      box = h.box;
      above = omega (arith, ints, h.above);
      below = omega (arith, ints, more);
      drawn = h.drawn;
      left_fits = h.left_fits;
      right_fits = h.right_fits;
      low = h.low;
      high = h.high;
      first = c.step.ensures _ _ y small.one near.first h.first;
      second = c.step-2.ensures _ _ y small.two near.second h.second;
      third = c.step-3.ensures _ _ y small.three near.third h.third;
    }
