use Rattle.std.proofs.Common.{◌∙◌, ◌≡◌, ◌+◌, ◌*◌, arith}
use Rattle.vram_copy.proofs.CopyLemmas.{free_of_both, piece_more}
use Rattle.vram_copy.proofs.CostLemmas.{free_spent}
use Rattle.vram_copy.proofs.chunks.copy_each.Goals as goal

pub copy_at_once-requires-clause-free : goal.copy_at_once-requires-clause-free
copy_at_once-requires-clause-free g c =
    let lt = c.loop-c-test.true in
    free_of_both c.args.way.from c.args.way.to _ _ (16 * c.loop-c.c) 16 16 c.beside.ensures.from
    c.beside.ensures.to (c.requires.free (omega (arith, lt))) (omega arith)

pub loop-c-preserved : goal.loop-c-preserved
loop-c-preserved g c =
    let next : 16 * (c.loop-c.c + 1) ≡ 16 * c.loop-c.c + 16 = omega arith in
    let lt = c.loop-c-test.true in
    rw next record {
      cells = piece_more _ _ _ c.args.mask c.args.way.from c.args.way.to c.beside.result.from
          c.beside.result.to (16 * c.loop-c.c) 16
          c.beside.ensures.from c.beside.ensures.to c.loop-c.invariant.cells c.copy_at_once.ensures.cells;
      long = c.copy_at_once.ensures.long ∙ c.loop-c.invariant.long;
      cost = free_spent c.args.way.from c.args.way.to c.beside.result.from c.beside.result.to
          (16 * c.loop-c.c) 16 _ _ _
          c.beside.ensures.from c.beside.ensures.to
          (free_of_both c.args.way.from c.args.way.to _ _ (16 * c.loop-c.c) 16 16 c.beside.ensures.from
          c.beside.ensures.to (c.requires.free (omega (arith, lt))) (omega arith))
          (omega arith) (omega arith) (omega arith) c.loop-c.invariant.cost c.copy_at_once.ensures.cost;
    }
