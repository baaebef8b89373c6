use Rattle.std.proofs.Common.{◌≡◌, ◌≤◌, ◌<◌, ◌+◌, ◌++◌, ◌∙◌, [], List, ℕ, ap, inl, inr, length, map, sym, refl, arith}
use Rattle.std.proofs.lemmas.Bool.{cases_lt}
use Rattle.gpu_capture.specs.Capture.{limit}
use Rattle.gpu_capture.specs.Written.{spell}
use Rattle.gpu_capture.specs.declared.event.Event.{Event}
use Rattle.event_play.specs.Replay.{next_number}
use Rattle.event_play.specs.RigState.{RigState}
use Rattle.event_play.specs.Streams.{without_sink}
use Rattle.capture_flat.specs.Flat.{flat_operation}
use Rattle.capture_flat.specs.OneEvent.{PlaysFlat}
use Rattle.capture_flat.specs.Out.{due_at}
use Rattle.gpu_capture.specs.Draft.{head_at}
use Rattle.capture_flat.specs.Taking.{FlatAt, FlatStands, FlatStart}
use Rattle.capture_flat.proofs.Passes.{breaks_same, due_known, due_length, faults_event, not_long, plays_flat, put_same}
use Rattle.capture_flat.proofs.Passes.{stands_same, too_long}
use Rattle.capture_flat.proofs.Taking.{all_stands, after_is, breaks_more, due_breaks, due_put, fits_before, head_is}
use Rattle.capture_flat.proofs.Taking.{knows_here}
use Rattle.capture_flat.proofs.Taking.{number_is, plays_more, same_stands, stands_more, too_much}
use Rattle.capture_flat.specs.Taking.{flat_at}
use Rattle.capture_flat.proofs.passage.FlatteningPassage.take.Goals as goal
use Rattle.capture_flat.proofs.passage.FlatteningPassage.take.Goals.{After-due_size-bytes}

module _ (g : _) (c : After-due_size-bytes g) (s : FlatStart) (version : ℕ) (events : List Event)
    (st : FlatStands s version events (flat_at c.args.self.now.file c.args.self.now.rig.now
    (map g.T.Listener.heard c.args.self.now.taps.now.items) c.args.self.now.steps.now)) where
  -- the event was played
  played : PlaysFlat st.plays.replay c.args.event.now
      (without_sink (map g.T.Listener.heard c.args.self.now.taps.now.items) c.args.self.now.steps.now)
      (without_sink (map g.T.Listener.heard c.event.new.taps.items) c.event.new.steps) c.event.new.self
  played =
      let t = st.plays.replay in
      let mid = stands_same t c.args.self.now.rig.now c.asked.new.self c.asked.ensures.unchanged st.plays.rig in
      plays_flat t c.args.self.now.rig.now c.asked.new.self c.event.new.self c.args.event.now c.in-Ok.operation
      c.in_default.field-0 (without_sink _ c.args.self.now.steps.now) (without_sink _ c.event.new.steps)
      c.ram.result.now st.plays.rig c.asked.ensures.unchanged (sym c.in-Ok.is ∙ c.asked.ensures.value)
      (c.in_default.ensures.stepped t.state mid.state) c.in_default.ensures.played c.ram.ensures c.allowed.ensures

  -- its output
  due_is : head_at c.args.self.now.file
      ++ spell (flat_operation c.ram.result.now c.in-Ok.operation) ≡ due_at version st.plays.replay c.args.event.now
  due_is =
      ap (λ bs. bs ++ spell (flat_operation c.ram.result.now c.in-Ok.operation)) (head_is s version events _ st)
      ∙ due_known version st.plays.replay c.args.self.now.rig.now c.event.new.self c.args.event.now
      c.in-Ok.operation _ _ c.args.self.now.rig.now.played c.ram.result.now st.plays.rig
      (sym c.in-Ok.is ∙ c.asked.ensures.value) played refl c.ram.ensures

  fits : c.args.self.now.file.size + c.due_size-bytes.result + 4 ≤ limit
      → c.args.self.now.file.size + length (due_at version st.plays.replay c.args.event.now) + 4 ≤ limit
  fits few = not_long _ _ _ _ c.due_size-bytes.ensures due_is few

  -- its number
  number_as : next_number c.played-played.result ≡ next_number st.plays.replay.played
  number_as = ap next_number (c.played-played.ensures ∙ sym st.plays.rig.played)

  abbrev now : FlatAt
  now = flat_at c.args.self.now.file c.event.new.self (map g.T.Listener.heard c.event.new.taps.items) c.event.new.steps

pub returns-in-Err-clause-halts : goal.returns-in-Err-clause-halts
returns-in-Err-clause-halts g c = λ s version events st.
    let number = number_is _ _ _ _ st c.played-played.result _ c.played-played.ensures
    c.saturating_add-number.ensures in
    let fault = faults_event st.plays.replay c.args.self.now.rig.now c.asked.new.self c.args.event.now c.in-Err.fault
    (without_sink [] 0) c.asked.ensures.unchanged st.plays.rig (sym c.in-Err.is ∙ c.asked.ensures.value) in
    let after = after_is s version events _ _ st.plays.follows in (
      (
        number,
        rw (after, c.saturating_add-number.ensures, c.played-played.ensures, ← st.plays.rig.played) fault.is,
        same_stands s version events _ _ _ _ _ c.asked.ensures.unchanged st,
      ),
      refl,
      refl,
    )

pub returns-in-Err-event-clause-halts : goal.returns-in-Err-event-clause-halts
returns-in-Err-event-clause-halts g c = λ s version events st.
    let number = number_is _ _ _ _ st c.played-played.result _ c.played-played.ensures
    c.saturating_add-number.ensures in
    let mid = stands_same st.plays.replay c.args.self.now.rig.now c.asked.new.self c.asked.ensures.unchanged
    st.plays.rig in
    let after = after_is s version events _ _ st.plays.follows in
    let played = ap (λ (r : RigState). r.played) c.asked.ensures.unchanged in (
      (
        number,
        rw (after, c.saturating_add-number.ensures, c.played-played.ensures, ← played)
            (c.in-Err-event.ensures.fault st.plays.replay.state mid.state),
        all_stands s version events _ _ _ _ _ _ _
            (c.in-Err-event.ensures.unchanged ∙ c.asked.ensures.unchanged) c.in-Err-event.ensures.untold
            c.in-Err-event.ensures.free st,
      ),
      refl,
      refl,
    )

pub returns-then-not-has_room-clause-halts : goal.returns-then-not-has_room-clause-halts
returns-then-not-has_room-clause-halts g c = λ s version events st.
    let at = (goal.at.returns-then-not-has_room-clause-halts g c).After-due_size-bytes in
    let bytes = c.due_size-bytes.result in
    let past : limit < c.args.self.now.file.size + bytes + 4 =
    elim (cases_lt limit (c.args.self.now.file.size + bytes + 4)) [
      | inl long ↦ long
      | inr few ↦ absurd (let fits = c.if-not-has_room.ensures.1 few in cc)
    ] in
    let plays = played g at s version events st in (
      (
        number_is _ _ _ _ st c.played-played.result _ c.played-played.ensures c.saturating_add-number.ensures,
        plays_more s version events c.args.event.now _ _ st plays,
        too_much s version events c.args.event.now _ (now g at s version events st) st plays
            (too_long _ _ _ _ c.due_size-bytes.ensures (due_is g at s version events st)
            past),
        fits_before s version events _ st,
      ),
      refl,
      refl,
    )

pub returns-in-Ok-put_due-clause-stands : goal.returns-in-Ok-put_due-clause-stands
returns-in-Ok-put_due-clause-stands g c = λ s version events st.
    let at = (goal.at.returns-in-Ok-put_due-clause-stands g c).After-due_size-bytes in
    stands_more s version events c.args.event.now _ _ st (played g at s version events st) refl
    (due_length _ _ _ _ c.due_size-bytes.ensures (due_is g at s version events st))
    (omega arith)

pub returns-in-Ok-put_due-clause-put : goal.returns-in-Ok-put_due-clause-put
returns-in-Ok-put_due-clause-put g c = λ s version events st.
    let at = (goal.at.returns-in-Ok-put_due-clause-put g c).After-due_size-bytes in
    due_put s version events c.args.event.now _ st _ (after_is s version events _ _ st.plays.follows) _ _
    (put_same _ _ _ _ _ _ (number_as g at s version events st) (due_is g at s version events st)
    c.in-Ok-put_due.ensures.ok)

pub returns-in-Err-put_due-clause-halts : goal.returns-in-Err-put_due-clause-halts
returns-in-Err-put_due-clause-halts g c = λ s version events st.
    let at = (goal.at.returns-in-Err-put_due-clause-halts g c).After-due_size-bytes in
    let plays = played g at s version events st in
    let few = fits g at s version events st (omega arith) in (
      due_breaks s version events c.args.event.now _ (after_is s version events _ _ st.plays.follows) _ _ _
          (breaks_same _ _ _ _ _ _ _ (number_as g at s version events st) (due_is g at s version events st)
          c.in-Err-put_due.ensures.failed),
      breaks_more s version events c.args.event.now _ _ st plays few,
      knows_here s version events c.args.event.now _ (now g at s version events st) st plays few,
    )

pub returns-in-Ok-put_due-clause-knows : goal.returns-in-Ok-put_due-clause-knows
returns-in-Ok-put_due-clause-knows g c = λ s version events st.
    let at = (goal.at.returns-in-Ok-put_due-clause-knows g c).After-due_size-bytes in
    knows_here s version events c.args.event.now _ (now g at s version events st) st (played g at s version events st)
    (fits g at s version events st (omega arith))
