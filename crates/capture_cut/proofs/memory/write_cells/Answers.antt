use Rattle.std.proofs.Common.{◌+◌, ◌*◌, ap, drop, arith}
use Rattle.std.proofs.lemmas.Result.{err_from_is_err_and}
use Rattle.dev_io.proofs.Writing.{underway_on, underway_fails, underway_end}
use Rattle.snapshot_words.specs.Outline.{bytes_of}
use Rattle.snapshot_words.specs.Values.{cell_words}
use Rattle.capture_cut.proofs.Words.{rows_split, rows_end}
use Rattle.capture_cut.proofs.Fitting.{cells_row, cells_all}
use Rattle.capture_cut.proofs.memory.write_cells.Goals as goal

pub returns-in_err-write_words-clause-writes : goal.returns-in_err-write_words-clause-writes
returns-in_err-write_words-clause-writes g c =
    let p = err_from_is_err_and c.from_residual.result c.from_residual.ensures.1 in
    let piece = ap bytes_of c.row_words-words.ensures.words in
    rw (p.1, p.2)
    (underway_fails _ _ _ _ _ (bytes_of c.row_words-words.result)
    (bytes_of (cell_words (drop (1024 * (c.loop-y.y + 1)) c.args.vram.now))) _ _ c.loop-y.invariant.underway
    (rw piece (rows_split c.args.vram.now (1024 * c.loop-y.y) (1024 * (c.loop-y.y + 1)) (omega arith)
    (omega (arith, c.height-y-end.ensures.cells, c.loop-y-test.true))))
    c.in_err-write_words.ensures)

pub loop-y-preserved : goal.loop-y-preserved
loop-y-preserved g c =
    let piece = ap bytes_of c.row_words-words.ensures.words in
    record {
      underway = underway_on _ _ _ _ _ (bytes_of c.row_words-words.result) _ _ _ c.loop-y.invariant.underway
          (rw piece (rows_split c.args.vram.now (1024 * c.loop-y.y) (1024 * (c.loop-y.y + 1)) (omega arith)
          (omega (arith, c.height-y-end.ensures.cells, c.loop-y-test.true))))
          c.in_ok-write_words.ensures;
      cells = cells_row c.args.vram.now (1024 * c.loop-y.y) _ c.loop-y.invariant.cells c.row_words-words.ensures.cells
          (omega arith);
      cost = omega (arith, c.loop-y.invariant.cost, c.row_words-words.ensures.cost);
    }

pub returns-clause-writes : goal.returns-clause-writes
returns-clause-writes g c =
    underway_end _ _ _ _ _ _ c.loop-y.invariant.underway
    (rows_end c.args.vram.now (1024 * c.loop-y.y)
    (omega (arith, c.height-y-end.ensures.cells, c.loop-y-test.false)))

pub returns-clause-cells : goal.returns-clause-cells
returns-clause-cells g c =
    cells_all c.args.vram.now (1024 * c.loop-y.y) c.loop-y.invariant.cells
    (omega (arith, c.height-y-end.ensures.cells, c.loop-y-test.false))
