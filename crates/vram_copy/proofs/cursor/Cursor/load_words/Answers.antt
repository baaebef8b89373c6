use Rattle.std.proofs.Common.{◌∙◌, ◌≡◌, arith, refl}
use Rattle.vram_copy.proofs.LoadLemmas.{loaded_more, words_done, place_on, place_first}
use Rattle.vram_copy.proofs.cursor.Cursor.load_words.Goals as goal

pub loop-done-init : goal.loop-done-init
loop-done-init g c = record {
  in_words = omega arith;
  here = place_first _ _ _ c.self.invariant;
  cells = refl;
  long = refl;
  cost = omega arith;
}

pub loop-done-preserved : goal.loop-done-preserved
loop-done-preserved g c = record {
  in_words = let n = c.run_len-n.ensures in let more = c.loop-done-test.true in omega (arith, n, more);
  here = place_on _ _ _ _ _ (c.place_behind-place.ensures _ c.loop-done.invariant.here);
  cells = loaded_more _ _ _ _ c.args.mask (record { job = c.self.inside.job; words = c.args.words.now })
      c.loop-done.place c.cell_at-to.result
      c.loop-done.done c.run_len-n.result
      c.loop-done.invariant.here (c.cell_at-to.ensures.value _ c.loop-done.invariant.here)
      (let n = c.run_len-n.ensures in let column = c.loop-done.invariant.here.column in omega (arith, n, column))
      (let n = c.run_len-n.ensures in let column = c.cell_at-to.ensures.in_row in omega (arith, n, column))
      c.loop-done.invariant.cells c.load_run.ensures.cells;
  long = c.load_run.ensures.long ∙ c.loop-done.invariant.long;
  cost = let before = c.loop-done.invariant.cost in let step = c.load_run.ensures.cost in omega (arith, before, step);
}

pub returns-clause-cells : goal.returns-clause-cells
returns-clause-cells g c =
    let all : c.loop-done.done ≡ c.count_pixels-count.result = let over = c.loop-done-test.false in
    let le = c.loop-done.invariant.in_words in omega (arith, over, le) in
    rw (← c.self.view_is)
    (words_done c.height-height.result c.args.vram.now c.loop-done.vram c.args.mask
    (record { job = c.self.inside.job; words = c.args.words.now }) c.loop-done.done
    c.height-height.ensures.rows (rw c.self.view_is c.requires.wanted)
    (all ∙ c.count_pixels-count.ensures) c.loop-done.invariant.cells)
