use Rattle.std.proofs.Common.{◌∙◌, arith}
use Rattle.vram_copy.proofs.FillLemmas.{stored_run, row_chunk}
use Rattle.vram_copy.proofs.fills.fill_row.Goals as goal

pub loop-k-preserved : goal.loop-k-preserved
loop-k-preserved g c = record {
  cells = row_chunk c.args.vram.now c.loop-k.vram c.store16.new.self c.args.first c.loop-k.k
      c.args.color c.requires.column c.loop-k.invariant.cells
      (rw (← c.wrap_x-column.ensures.value) (stored_run _ _ _ _ c.store16.ensures.cells));
  long = c.store16.ensures.long ∙ c.loop-k.invariant.long;
  cost = omega (arith, c.loop-k.invariant.cost, c.store16.ensures.cost);
}
