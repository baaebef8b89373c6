use Rattle.std.proofs.Common.{◌+◌, ◌*◌, ap, drop, arith}
use Rattle.std.proofs.lemmas.Result.{err_from_is_err_and}
use Rattle.dev_io.proofs.Writing.{underway_on, underway_fails, underway_end}
use Rattle.snapshot_words.specs.Outline.{bytes_of}
use Rattle.capture_cut.proofs.Words.{words_split, words_end}
use Rattle.capture_cut.proofs.memory.write_ram.Goals as goal

pub returns-in_err-write_words : goal.returns-in_err-write_words
returns-in_err-write_words g c =
    let p = err_from_is_err_and c.from_residual.result c.from_residual.ensures.1 in
    let piece = ap bytes_of c.ram_words-words.ensures.words in
    rw (p.1, p.2)
    (underway_fails _ _ _ _ _ (bytes_of c.ram_words-words.result)
    (bytes_of (drop (512 * (c.loop-i.i + 1)) c.args.ram.now)) _ _ c.loop-i.invariant.underway
    (rw piece (words_split c.args.ram.now (512 * c.loop-i.i) 512 (512 * (c.loop-i.i + 1)) (omega arith)))
    c.in_err-write_words.ensures)

pub loop-i-preserved : goal.loop-i-preserved
loop-i-preserved g c =
    let piece = ap bytes_of c.ram_words-words.ensures.words in
    record {
      underway = underway_on _ _ _ _ _ (bytes_of c.ram_words-words.result) _ _ _ c.loop-i.invariant.underway
          (rw piece (words_split c.args.ram.now (512 * c.loop-i.i) 512 (512 * (c.loop-i.i + 1)) (omega arith)))
          c.in_ok-write_words.ensures;
      long = λ some. c.ram_words-words.ensures.long;
    }

pub returns : goal.returns
returns g c =
    let long = c.loop-i.invariant.long (omega (arith, c.loop-i-test.false)) in
    underway_end _ _ _ _ _ _ c.loop-i.invariant.underway
    (words_end c.args.ram.now (512 * c.loop-i.i) (omega (arith, long, c.loop-i-test.false)))
