use Rattle.std.proofs.Common.{◌∙◌, arith}
use Rattle.vram_copy.proofs.LoadLemmas.{run_more}
use Rattle.vram_copy.proofs.loads.load_each.Goals as goal

pub loop-done-preserved-then-stretch-done-ge16 : goal.loop-done-preserved-then-stretch-done-ge16
loop-done-preserved-then-stretch-done-ge16 g c = record {
  in_run = let room = c.if-stretch-done-ge16.true in omega (arith, room);
  cells = run_more _ _ _ c.args.mask c.args.words.now (record c.args.stretch { n = c.loop-done.done }) 16
      c.loop-done.invariant.cells c.load_sixteen.ensures.cells;
  long = c.load_sixteen.ensures.long ∙ c.loop-done.invariant.long;
  cost = let before = c.loop-done.invariant.cost in let step = c.load_sixteen.ensures.cost in
      omega (arith, before, step);
}
