use Rattle.std.proofs.Common.{◌∙◌, refl, rules, arith}
use Rattle.gpu_snapshot.proofs.CellWords.{others_on, row_begins, row_ends, row_on}
use Rattle.gpu_snapshot.proofs.cells.set_row.Goals as goal

pub chunks-init : goal.chunks-init
chunks-init g c = record {
  row = λ before left takes. row_begins before left c.args.rig.now.gpu.parts.m c.args.block.now c.args.y takes;
  others = refl;
  long = refl;
  cost = omega arith;
}

pub chunks-preserved : goal.chunks-preserved
chunks-preserved g c = record {
  row = λ before left takes. row_on before left c.chunks.rig.gpu.parts.m c.set_chunk.new.rig.gpu.parts.m
      c.lanes_in.result c.args.block.now c.args.y c.chunks.c (search rules) c.set_chunk.ensures.set
      (c.chunks.invariant.row before left takes) c.lanes_in.ensures;
  others = others_on c.args.rig.now c.chunks.rig c.set_chunk.new.rig c.chunks.invariant.others
      c.set_chunk.ensures.others;
  long = let set = c.set_chunk.ensures.set in set.count ∙ c.chunks.invariant.long;
  cost = omega (arith, c.chunks.invariant.cost, c.set_chunk.ensures.cost);
}

pub returns-clause-row : goal.returns-clause-row
returns-clause-row g c = λ before left takes.
    row_ends before left c.chunks.rig.gpu.parts.m c.args.block.now c.args.y c.chunks.c c.told-block
    (omega (arith, c.chunks-test.false, c.chunks.auto.c-end)) (c.chunks.invariant.row before left takes)
