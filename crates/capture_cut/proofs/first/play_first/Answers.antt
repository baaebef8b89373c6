use Rattle.std.proofs.Common.{◌≡◌, ℕ, sym, subst, refl, arith, map}
use Rattle.std.proofs.lemmas.Result.{err_from_is_err_and}
use Rattle.event_play.specs.Replay.{from_state}
use Rattle.event_play.specs.Streams.{streams}
use Rattle.capture_cut.specs.Came.{PlaysFirst}
use Rattle.capture_cut.specs.Cut.{cut_at}
use Rattle.capture_cut.proofs.Early.{early_ends}
use Rattle.capture_cut.proofs.Playing.{awaits_first, awaits_next, played_on}
use Rattle.capture_cut.proofs.Reading.{answered, failed}
use Rattle.capture_cut.proofs.first.play_first.Goals as goal

pub returns-in_err-play_answer-clause-ends : goal.returns-in_err-play_answer-clause-ends
returns-in_err-play_answer-clause-ends g c = λ s held e.
    let p = err_from_is_err_and c.from_residual.result c.from_residual.ensures.1 in
    let at = awaits_first s _ _ held _ _ _ _ _ _ c.next-first.result c.new-reader.ensures.start
    (c.raise.ensures (from_state s 0) (record { state = e; played = sym c.requires.unplayed })) c.version.ensures.value
    c.next-first.ensures.takes c.next-first.ensures.version (c.next-first.ensures.stop c.new-reader.ensures.stop) in
    rw (p.1, p.2) (early_ends 0 _ _ _ _ _ _ _ _ _ _ (omega (arith, c.requires.some)) c.ranges.n.fits _ at _ refl
    (c.in_err-play_answer.ensures.ends at.replay at.stands.rig_is) c.in_err-play_answer.ensures.idle)

pub returns-in_err-play_answer-clause-cause : goal.returns-in_err-play_answer-clause-cause
returns-in_err-play_answer-clause-cause g c =
    let p = err_from_is_err_and c.from_residual.result c.from_residual.ensures.1 in
    rw (p.1, p.2) (λ may. failed c.next-first.result _ (c.in_err-play_answer.ensures.stopped may)
    (c.next-first.ensures.cause c.new-reader.ensures.stop))

pub events-init : goal.events-init
events-init g c = record {
  first = λ s held e.
      let at = awaits_first s _ _ held _ _ _ _ _ _ c.next-first.result c.new-reader.ensures.start
      (c.raise.ensures (from_state s 0) (record { state = e; played = sym c.requires.unplayed }))
      c.version.ensures.value c.next-first.ensures.takes c.next-first.ensures.version
      (c.next-first.ensures.stop c.new-reader.ensures.stop) in
      played_on 0 _ _ _ _ _ _ _ _ _ _ at (c.in_ok-play_answer.ensures.ok at.replay at.stands.rig_is) (omega arith);
  ready = answered c.next-first.result _ c.in_ok-play_answer.ensures.answered c.next-first.ensures.keeps.runs_on;
  few = let less = answered c.next-first.result _ c.in_ok-play_answer.ensures.answered c.next-first.ensures.forward in
      omega (arith, less, c.new-reader.ensures.work);
  faults = c.next-first.ensures.faults;
}

pub returns-in_err-play_answer-2-clause-ends : goal.returns-in_err-play_answer-2-clause-ends
returns-in_err-play_answer-2-clause-ends g c = λ s held e.
    let p = err_from_is_err_and c.from_residual-in_err-play_answer-2.result
    c.from_residual-in_err-play_answer-2.ensures.1 in
    let at = awaits_next _ _ _ _ _ _ _ _ c.next-next.result (c.events.invariant.first s held e)
    c.next-next.ensures.takes c.next-next.ensures.version (c.next-next.ensures.stop c.events.invariant.ready) in
    rw (p.1, p.2) (early_ends _ _ _ _ _ _ _ _ _ _ _ c.events-test.true c.ranges.n.fits _ at _ refl
    (c.in_err-play_answer-2.ensures.ends at.replay at.stands.rig_is) c.in_err-play_answer-2.ensures.idle)

pub returns-in_err-play_answer-2-clause-cause : goal.returns-in_err-play_answer-2-clause-cause
returns-in_err-play_answer-2-clause-cause g c =
    let p = err_from_is_err_and c.from_residual-in_err-play_answer-2.result
    c.from_residual-in_err-play_answer-2.ensures.1 in
    rw (p.1, p.2) (λ may.
    let rose = failed c.next-next.result _ (c.in_err-play_answer-2.ensures.stopped may)
    (c.next-next.ensures.cause c.events.invariant.ready) in
    omega (arith, rose, c.events.invariant.faults))

pub events-preserved : goal.events-preserved
events-preserved g c = record {
  first = λ s held e.
      let at = awaits_next _ _ _ _ _ _ _ _ c.next-next.result (c.events.invariant.first s held e)
      c.next-next.ensures.takes c.next-next.ensures.version (c.next-next.ensures.stop c.events.invariant.ready) in
      played_on _ _ _ _ _ _ _ _ _ _ _ at (c.in_ok-play_answer-2.ensures.ok at.replay at.stands.rig_is)
      (omega (arith, c.events-test.true, c.ranges.n.fits));
  ready = answered c.next-next.result _ c.in_ok-play_answer-2.ensures.answered c.next-next.ensures.keeps.runs_on;
  few = let less = answered c.next-next.result _ c.in_ok-play_answer-2.ensures.answered c.next-next.ensures.forward in
      omega (arith, less, c.events.invariant.few);
  faults = omega (arith, c.events.invariant.faults, c.next-next.ensures.faults);
}

pub returns-clause-ok : goal.returns-clause-ok
returns-clause-ok g c = λ s held e.
    let all : c.events.k ≡ c.args.n = omega (arith, c.events-test.false, c.requires.some, c.events.auto.k-end) in
    let P : ℕ → Type 0 = λ n. PlaysFirst (cut_at n (from_state s 0))
    (streams (g.S.Source.left c.args.source.now) held (map g.T.Listener.heard c.args.taps.now.items) c.args.steps.now)
    (streams (g.S.Source.left c.events.source) held (map g.T.Listener.heard c.events.taps.items) c.events.steps)
    c.events.rig c.events.reader.progress in
    subst P all (c.events.invariant.first s held e)
