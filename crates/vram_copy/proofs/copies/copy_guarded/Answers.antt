use Rattle.std.proofs.Common.{◌∙◌, arith}
use Rattle.vram_copy.proofs.CopyLemmas.{piece_more}
use Rattle.vram_copy.proofs.CostLemmas.{piece_spent}
use Rattle.vram_copy.proofs.copies.copy_guarded.Goals as goal

pub loop-done-preserved : goal.loop-done-preserved
loop-done-preserved g c =
    let more = c.loop-done-test.true in
    let few = c.min-k.ensures in
    let whole = c.loop-done.invariant.whole more in
    record {
      in_piece = omega (arith, more, few);
      whole = λ lt. omega (arith, more, few, whole, lt);
      cells = piece_more _ _ _ c.args.mask c.args.way.from c.args.way.to c.beside.result.from c.beside.result.to
          c.loop-done.done c.min-k.result
          c.beside.ensures.from c.beside.ensures.to c.loop-done.invariant.cells c.copy_chunk.ensures.cells;
      long = c.copy_chunk.ensures.long ∙ c.loop-done.invariant.long;
      cost = piece_spent c.args.way.from c.args.way.to c.beside.result.from c.beside.result.to c.loop-done.done
          c.min-k.result _ _ _
          c.beside.ensures.from c.beside.ensures.to whole (omega (arith, more, few))
          (omega (arith, few)) c.loop-done.invariant.cost c.copy_chunk.ensures.cost;
    }
