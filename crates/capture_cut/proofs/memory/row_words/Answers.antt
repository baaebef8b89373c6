use Rattle.std.proofs.Common.{arith, drop, ◌∙◌, ◌*◌, ◌+◌, ◌-◌}
use Rattle.vram_store.proofs.Loaded.{loaded_lanes}
use Rattle.picture_out.proofs.DumpLemmas.{length_put_mid}
use Rattle.capture_cut.proofs.Words.{row_on, row_whole}
use Rattle.capture_cut.proofs.Fitting.{cells_next, cells_whole}
use Rattle.capture_cut.proofs.memory.row_words.Goals as goal

pub loop-k-preserved : goal.loop-k-preserved
loop-k-preserved g c = record {
  count = length_put_mid c.loop-k.words c.put_lanes.new.words (8 * c.loop-k.k) (8 * c.loop-k.k + 8 - 8 * c.loop-k.k)
      (omega (arith, c.loop-k.invariant.count, c.loop-k-test.true)) (omega (arith, c.put_lanes.ensures.count))
      ∙ c.loop-k.invariant.count;
  words = row_on _ _ _ _ _ _ _ c.loop-k.invariant.words c.put_lanes.ensures.lanes
      (loaded_lanes _ _ _ c.load16.ensures.lanes) (omega (arith, c.loop-k.invariant.count, c.loop-k-test.true))
      c.put_lanes.ensures.count (omega (arith, c.load16.ensures.lanes.in_cells));
  cells = cells_next c.args.vram.now _ (1024 * c.args.y) (16 * c.loop-k.k) _ 16 c.loop-k.invariant.cells
      (loaded_lanes _ _ _ c.load16.ensures.lanes) c.keep_cells.ensures (omega arith);
  cost = omega (arith, c.loop-k.invariant.cost, c.load16.ensures.cost);
}

pub returns-clause-words : goal.returns-clause-words
returns-clause-words g c =
    row_whole c.args.vram.now c.loop-k.words _ c.loop-k.k c.loop-k.invariant.words
    (omega (arith, c.loop-k-test.false, c.loop-k.auto.k-end)) c.loop-k.invariant.count

pub returns-clause-cells : goal.returns-clause-cells
returns-clause-cells g c =
    cells_whole (drop (1024 * c.args.y) c.args.vram.now) (16 * c.loop-k.k) 1024 c.loop-k.invariant.cells
    (omega (arith, c.loop-k-test.false, c.loop-k.auto.k-end))
