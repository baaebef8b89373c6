use Rattle.std.proofs.Common.{◌≡◌, ◌∙◌, refl, arith}
use Rattle.event_loop.proofs.Commands.{break_is, put_is}
use Rattle.crate_tests.proofs.Copying.{counts_on}
use Rattle.crate_tests.proofs.tests.record_copy.CopyingPassage.take.Goals as goal

pub returns-then-self-clause-halts : goal.returns-then-self-clause-halts
returns-then-self-clause-halts g c = λ s version events stands.
    let full : c.args.self.now.count.now ≡ s = omega (arith, c.if-self.true, stands.0, stands.1.fits) in
    ((stands.1, full, c.next_number-number.ensures s version events stands), refl, refl)

pub returns-in-Ok-clause-put : goal.returns-in-Ok-clause-put
returns-in-Ok-clause-put g c = λ s version events stands.
    put_is _ _ _ _ _ (c.next_number-number.ensures s version events stands)
    (c.as_slice.ensures.value ∙ c.record_bytes.ensures) _ c.in-Ok.ensures.ok

pub returns-in-Err-clause-halts : goal.returns-in-Err-clause-halts
returns-in-Err-clause-halts g c = λ s version events stands. (
  break_is _ _ _ _ _ (c.next_number-number.ensures s version events stands)
      (c.as_slice.ensures.value ∙ c.record_bytes.ensures) _ _ c.in-Err.ensures.failed,
  counts_on s events c.args.event.now c.args.self.now.count.now stands.1 (omega (arith, c.if-self.false, stands.0)),
  tt,
)
