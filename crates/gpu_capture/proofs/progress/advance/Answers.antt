use Rattle.std.proofs.Common.{arith}
use Rattle.std.proofs.lemmas.Result.{err_from_is_err_and}
use Rattle.gpu_capture.proofs.Steps.{takes_on, stops_on}
use Rattle.gpu_capture.proofs.progress.advance.Goals as goal

pub returns-in_err-event-clause-stop : goal.returns-in_err-event-clause-stop
returns-in_err-event-clause-stop g c =
    let p = err_from_is_err_and c.from_residual-in_err-event.result c.from_residual-in_err-event.ensures.1 in
    rw (p.1, p.2) (stops_on _ _ _ _ c.words.invariant.takes c.in_err-event.ensures.stop)

pub returns-in-Some-clause-takes : goal.returns-in-Some-clause-takes
returns-in-Some-clause-takes g c =
    let took = rw c.in-Some.is at c.in_ok-event.ensures.takes in
    takes_on _ _ _ _ c.words.invariant.takes took

pub words-preserved : goal.words-preserved
words-preserved g c =
    let took = rw c.in-None.is at c.in_ok-event.ensures.takes in
    record {
      takes = takes_on _ _ _ _ c.words.invariant.takes took;
      stays = c.in_ok-event.ensures.stays;
      forward = omega (arith, c.words.invariant.forward, c.in_ok-event.ensures.forward);
      faults = omega (arith, c.words.invariant.faults, c.in_ok-event.ensures.faults.kept);
    }
