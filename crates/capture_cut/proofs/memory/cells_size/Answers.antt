use Rattle.std.proofs.Common.{◌*◌, arith}
use Rattle.gpu_capture.proofs.Written.{words_length}
use Rattle.snapshot_words.specs.Values.{cell_words}
use Rattle.capture_cut.proofs.Words.{cells_length}
use Rattle.capture_cut.proofs.memory.cells_size.Goals as goal

pub returns-clause-value : goal.returns-clause-value
returns-clause-value c =
    let bytes = words_length (cell_words c.args.vram.now) in
    let words = cells_length (512 * c.height.result) c.args.vram.now (omega (arith, c.height.ensures.cells)) in
    omega (arith, bytes, words)
