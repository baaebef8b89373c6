use Rattle.std.proofs.Common.{rules, arith}
use Rattle.std.proofs.lemmas.Result.{err_from_is_err_and}
use Rattle.dev_io.proofs.Parts.{piece_part}
use Rattle.dev_io.proofs.pieces.write_each.Goals as goal

pub returns-in_err-write_all : goal.returns-in_err-write_all
returns-in_err-write_all g c =
    let p = err_from_is_err_and c.from_residual.result c.from_residual.ensures.1 in
    rw (p.1) (record {
      ok = search rules;
      failed = piece_part (λ piece. piece.now) _ _ _ _ _ _ c.loop-piece-test.true c.loop-piece.invariant.held
          c.in_err-write_all.ensures.failed;
      cause = omega (arith, c.in_err-write_all.ensures.cause, c.loop-piece.invariant.faults);
      faults = omega (arith, c.in_err-write_all.ensures.faults, c.loop-piece.invariant.faults);
    })
