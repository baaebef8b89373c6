-- The end of playing a capture: a flush that failed at a pause, or a stop of the reader.
use Rattle.std.proofs.Common.{◌≡◌, ◌≤◌, inl, inr, true, false, ℕ, ◌+◌, ◌++◌, List, [], ◌∷◌, Option, Err}
use Rattle.std.proofs.Common.{refl, ap, sym, subst, ◌∙◌, append-nil, arith}
use Rattle.std.proofs.Common.{length, length-append}
use Rattle.dev_io.specs.Device.{appended, AppendsPart}
use Rattle.dev_io.proofs.Appended.{appended-appended}
use Rattle.gathered_out.specs.Pieces.{Piece}
use Rattle.gathered_out.specs.Puts.{BreaksWriting, IsWritten}
use Rattle.gathered_out.proofs.Buffers.{buffers_none, buffers_off}
use Rattle.gathered_out.proofs.Buffers.{buffers_written}
use Rattle.gpu_capture.specs.Reader.{capture_from}
use Rattle.gpu_capture.specs.declared.event.Event.{Event}
use Rattle.gpu_capture.specs.declared.event.Stop.{Stop}
use Rattle.gpu_capture.specs.declared.event.Stop.TheVariants.{End, NotCapture, Truncated, BadRecord, TooLong, ReadFault}
use Rattle.gpu_capture.specs.declared.progress.Progress.{Progress}
use Rattle.event_play.specs.Ends.{EndsAt, EndsReading, final_output}
use Rattle.event_play.specs.Ends.{WritesEnd, WritesEndPart, IsNotEnd}
use Rattle.event_play.specs.Out.{lines_of, replay_cost, final_bytes, final_cost, ending_under, lacks_picture}
use Rattle.event_play.specs.Out.{out_cost}
use Rattle.event_play.specs.Playing.{SaysEnding, EndsPlay, IsLast, plays, whole}
use Rattle.event_play.specs.Replay.{Replay, Script, next_number}
use Rattle.event_play.specs.RigState.{RigState, StandsFor}
use Rattle.event_play.specs.Streams.{Outlets, Streams}
use Rattle.event_play.specs.Told.{told_notes}
use Rattle.event_play.specs.declared.ending.Ending.{Ending}
use Rattle.event_play.specs.declared.ending.Ending.TheVariants.{Done, Stopped, Faulted, NoPicture, WriteFailed}
use Rattle.event_play.specs.declared.ending.Mode.{Mode}
use Rattle.event_play.proofs.Awaiting.{Reaches, GoesOn, Awaits, SaysNext}
use Rattle.event_play.proofs.BoxCosts.{AreSmall, within_boxes}
use Rattle.event_play.proofs.Following.{ReadsAll, leads_all, reads_all}
use Rattle.event_play.proofs.Grows.{cost_within}
use Rattle.event_play.proofs.Lacking.{WasDue, lacks_lines}
use Rattle.event_loop.proofs.Awaiting.{held_all}
use Rattle.event_play.proofs.Reaching.{beside, buffers_of, spent_on}
use Rattle.event_play.specs.PlayInput.{at_end, play_input, replay_pair}

-- ---- a pause

-- the flush at a pause failed
pub pause_ends : (mode : Mode) (script : List ℕ → Script) (before now : Streams) (buffered : List Piece) (since : ℕ)
    (rig : RigState) (p : Progress) (held : Option (List ℕ)) (lacking : ℕ)
    → Reaches mode script before now buffered rig (GoesOn mode script since p) → AreSmall (plays script)
    → BreaksWriting now.held held buffered lacking
    → EndsPlay mode script before (at_end (record now { held = held }) rig) (WriteFailed lacking)
pause_ends mode script before now buffered since rig p held lacking reached is_small breaks =
    let t = reached.replay in
    let read = reached.says.read in
    let all = reads_all script p t reached.taken reached.events read in
    let is = buffers_of mode now.held held buffered lacking reached.free breaks in
    let few = reached.says.few is in
    let long = ap length reached.taken_is in
    let both = length-append reached.flushed reached.after in
    let due = WasDue mode script reached.events reached.flushed reached.taken in
    let off = buffers_off due before.held (lines_of mode t) now.held held buffered lacking reached.buffers breaks in
    let cost = λ (rest : List ℕ).
    cost_within mode t (plays script (reached.taken ++ rest)) (capture_from p rest) before.steps now.steps
    (reached.says.plays_on rest) reached.cost in
    record {
      taken = reached.taken;
      bytes = reached.bytes;
      needed = reached.needed;
      replay = off.is.replay;
      last = t;
      says = lacks_lines mode script before (record now { held = held }) all.first t all.version reached.events
          reached.flushed reached.taken lacking off is all.begins all.says
          (leads_all all.first t reached.events all.follows) (omega (arith, few, long, both));
      is_last = tt;
      stands = reached.stands;
      heard = reached.heard;
      cost = cost;
      box_cost = λ rest.
          within_boxes mode (plays script) (reached.taken ++ rest) before.steps now.steps is_small (cost rest);
    }

-- ---- a stop of the reader

-- the number of the next event, by the rig's count
number_of : (rig : RigState) (t : Replay) → StandsFor rig t → next_number rig.played ≡ next_number t.played
number_of rig t stands = ap next_number (sym stands.played)

-- how a whole replay ends in a mode
shown_ends : (mode : Mode) (t : Replay) → lacks_picture mode t.state.gpu.parts.regs ≡ false
    → ending_under mode (whole t []) ≡ Done
shown_ends mode t shows = rw shows refl

lacking_ends : (mode : Mode) (t : Replay) → lacks_picture mode t.state.gpu.parts.regs ≡ true
    → ending_under mode (whole t []) ≡ NoPicture (next_number t.played)
lacking_ends mode t lacks = rw lacks refl

module _ (mode : Mode) (script : List ℕ → Script) (before : Streams) (left : Option (List ℕ)) (mid now : Outlets)
    (since : ℕ) (rig : RigState) (p : Progress) (stop : Stop)
    (reached : Awaits mode script before (beside left mid) [] since rig p (Err stop))
    (is_small : AreSmall (plays script))
    (same : now.heard ≡ mid.heard) where
  -- all output so far was written
  pub stood : mid.held ≡ appended before.held (lines_of mode reached.replay)
  stood = held_all (WasDue mode script reached.events reached.flushed reached.taken) before.held
      (lines_of mode reached.replay) mid.held [] refl reached.buffers

  -- an ending after the last event, from what it says and the store steps of the output
  ends_after : (ending : Ending)
      → SaysEnding (play_input mode script reached.taken) (replay_pair reached.replay reached.replay) before
      (beside left now) ending
      → IsLast reached.replay reached.replay ending
      → ((rest : List ℕ) → now.steps ≤ before.steps + out_cost mode (plays script (reached.taken ++ rest)))
      → EndsPlay mode script before (at_end (beside left now) rig) ending
  ends_after ending says is_last cost = record {
    taken = reached.taken;
    bytes = reached.bytes;
    needed = reached.needed;
    replay = reached.replay;
    last = reached.replay;
    says = says;
    is_last = is_last;
    stands = reached.stands;
    heard = same ∙ reached.heard;
    cost = cost;
    box_cost = λ rest.
        within_boxes mode (plays script) (reached.taken ++ rest) before.steps now.steps is_small (cost rest);
  }

  -- no store step since the last event
  stop_costs : now.steps ≡ mid.steps → (rest : List ℕ) → now.steps ≤ before.steps + out_cost mode
      (plays script (reached.taken ++ rest))
  stop_costs steps rest = let grows = reached.says.costs rest in omega (arith, reached.cost, grows, steps)

-- the end of the capture
module _ (mode : Mode) (script : List ℕ → Script) (before : Streams) (left : Option (List ℕ)) (mid now : Outlets)
    (since : ℕ) (rig : RigState) (p : Progress)
    (reached : Awaits mode script before (beside left mid) [] since rig p (Err End))
    (is_small : AreSmall (plays script))
    (same : now.heard ≡ mid.heard) where
  end_costs : lacks_picture mode reached.replay.state.gpu.parts.regs ≡ false
      → now.steps ≤ mid.steps + final_cost mode reached.replay.state.gpu
      → (rest : List ℕ) → now.steps ≤ before.steps + out_cost mode (plays script (reached.taken ++ rest))
  end_costs shows spent rest =
      rw (reached.says.says rest, shows)
      (spent_on before.steps mid.steps now.steps (replay_cost mode reached.replay)
      (final_cost mode reached.replay.state.gpu) reached.cost spent)

  done_ends : WritesEnd (final_output mode reached.replay.state.gpu (next_number rig.played)) mid now
      → EndsPlay mode script before (at_end (beside left now) rig) Done
  done_ends wrote =
      let t = reached.replay in
      let Q : ℕ → Type 0 = λ number. WritesEnd (final_output mode t.state.gpu number) mid now in
      let writes = subst Q (number_of rig t reached.stands) wrote in
      let due = final_bytes mode mid.heard (next_number t.played) t.state.gpu in
      let heard : mid.heard ≡ told_notes t.notes before.heard = reached.heard in
      ends_after mode script before left mid now since rig p End reached is_small same Done (
        reached.says.says,
        shown_ends mode t writes.shows,
        writes.held
            ∙ ap (λ xs. appended xs due) (stood mode script before left mid now since rig p End reached is_small same)
            ∙ appended-appended before.held (lines_of mode t) due
            ∙ ap (λ heard. appended before.held
            (lines_of mode t ++ final_bytes mode heard (next_number t.played) t.state.gpu)) heard,
      )
      refl (end_costs writes.shows writes.cost)

  finals_end : (number : ℕ) → number ≡ next_number rig.played
      → WritesEndPart (final_output mode reached.replay.state.gpu (next_number rig.played)) mid now
      → EndsPlay mode script before (at_end (beside left now) rig) (WriteFailed number)
  finals_end number at wrote =
      let t = reached.replay in
      let Q : ℕ → Type 0 = λ number. WritesEndPart (final_output mode t.state.gpu number) mid now in
      let writes = subst Q (number_of rig t reached.stands) wrote in
      let due = final_bytes mode mid.heard (next_number t.played) t.state.gpu in
      ends_after mode script before left mid now since rig p End reached is_small same (WriteFailed number)
      (record {
        number_is = at ∙ number_of rig t reached.stands;
        start = t;
        origin = inr (inr (record {
          comes = reached.says.says;
          ends = shown_ends mode t writes.shows;
          start_is = refl;
          last_is = refl;
          bytes = ap (λ heard. final_bytes mode heard (next_number t.played) t.state.gpu) reached.heard;
        }));
        due = due;
        held = let P : Option (List ℕ) → Type 0 = λ held. AppendsPart held now.held due in
            subst P (stood mode script before left mid now since rig p End reached is_small same) writes.held;
        prefix = λ rest. (
          [],
          rw (reached.says.says rest, writes.shows, ← reached.heard)
              (ap (λ xs. lines_of mode t ++ xs) (sym (append-nil due))),
        );
      })
      tt (end_costs writes.shows writes.cost)

  lacks_end : (number : ℕ) → number ≡ next_number rig.played
      → lacks_picture mode reached.replay.state.gpu.parts.regs ≡ true → now ≡ mid
      → EndsPlay mode script before (at_end (beside left now) rig) (NoPicture number)
  lacks_end number at lacks unchanged =
      let t = reached.replay in
      let held : now.held ≡ mid.held = ap (λ (at : Outlets). at.held) unchanged in
      let steps : now.steps ≡ mid.steps = ap (λ (at : Outlets). at.steps) unchanged in
      ends_after mode script before left mid now since rig p End reached is_small same (NoPicture number) (
        reached.says.says,
        lacking_ends mode t lacks ∙ ap NoPicture (sym (at ∙ number_of rig t reached.stands)),
        held ∙ stood mode script before left mid now since rig p End reached is_small same,
      )
      refl (stop_costs mode script before left mid now since rig p End reached is_small same steps)

module _ (mode : Mode) (script : List ℕ → Script) (before : Streams) (left : Option (List ℕ)) (mid now : Outlets)
    (since : ℕ) (rig : RigState) (p : Progress) where
  stopped_says : (stop : Stop) (t : Replay) (taken : List ℕ) → SaysNext script p left (Err stop) t taken → IsNotEnd stop
      → now.held ≡ appended before.held (lines_of mode t)
      → SaysEnding (play_input mode script taken) (replay_pair t t) before (beside left now)
      (Stopped (next_number t.played) stop)
  stopped_says End t taken says not held = absurd not
  stopped_says (ReadFault byte) t taken says not held = (says, held)
  stopped_says (Truncated byte) t taken says not held = (says.0, held, says.1)
  stopped_says (NotCapture byte) t taken says not held = (says, held)
  stopped_says (BadRecord byte word) t taken says not held = (says, held)
  stopped_says (TooLong byte) t taken says not held = (says, held)

  stop_ends : (stop : Stop) (reached : Awaits mode script before (beside left mid) [] since rig p (Err stop))
      → AreSmall (plays script) → now.heard ≡ mid.heard
      → (ending : Ending) → EndsAt
      (final_output mode reached.replay.state.gpu (next_number rig.played)) stop mid now ending
      → EndsPlay mode script before (at_end (beside left now) rig) ending
  stop_ends stop reached is_small same Done (is, writes) =
      let P : Stop → Type 0 = λ stop. (reached : Awaits mode script before (beside left mid) [] since rig p (Err stop))
      → WritesEnd (final_output mode reached.replay.state.gpu (next_number rig.played)) mid now
      → EndsPlay mode script before (at_end (beside left now) rig) Done in
      subst P (sym is) (λ reached writes. done_ends mode script before left mid now since rig p reached is_small same
      writes) reached writes
  stop_ends stop reached is_small same (WriteFailed number) (is, at, writes) =
      let P : Stop → Type 0 = λ stop. (reached : Awaits mode script before (beside left mid) [] since rig p (Err stop))
      → WritesEndPart (final_output mode reached.replay.state.gpu (next_number rig.played)) mid now
      → EndsPlay mode script before (at_end (beside left now) rig) (WriteFailed number) in
      subst P (sym is) (λ reached writes. finals_end mode script before left mid now since rig p reached is_small same
      number at writes) reached writes
  stop_ends stop reached is_small same (NoPicture number) (is, at, lacks, unchanged) =
      let P : Stop → Type 0 = λ stop. (reached : Awaits mode script before (beside left mid) [] since rig p (Err stop))
      → lacks_picture mode reached.replay.state.gpu.parts.regs ≡ true
      → EndsPlay mode script before (at_end (beside left now) rig) (NoPicture number) in
      subst P (sym is) (λ reached lacks. lacks_end mode script before left mid now since rig p reached is_small same
      number at lacks unchanged) reached lacks
  stop_ends stop reached is_small same (Stopped number told) (at, is, not, unchanged) =
      let t = reached.replay in
      let Q : Ending → Type 0 = λ ending. EndsPlay mode script before (at_end (beside left now) rig) ending in
      let e : Stopped (next_number t.played) stop ≡ Stopped number told =
      ap (λ n. Stopped n stop) (sym (at ∙ number_of rig t reached.stands)) ∙ ap (Stopped number) (sym is) in
      let held : now.held ≡ mid.held = ap (λ (at : Outlets). at.held) unchanged in
      let steps : now.steps ≡ mid.steps = ap (λ (at : Outlets). at.steps) unchanged in
      subst Q e
      (ends_after mode script before left mid now since rig p stop reached is_small same
      (Stopped (next_number t.played) stop)
      (stopped_says stop t reached.taken reached.says.says not
      (held ∙ stood mode script before left mid now since rig p stop reached is_small same)) refl
      (stop_costs mode script before left mid now since rig p stop reached is_small same steps))
  stop_ends stop reached is_small same (Faulted number fault) ends = absurd ends

-- ---- the same, after a flush of the buffer

-- the buffer was flushed
all_written : (mode : Mode) (script : List ℕ → Script) (before : Streams) (left : Option (List ℕ)) (was mid : Outlets)
    (since : ℕ) (rig : RigState) (p : Progress) (stop : Stop)
    → Awaits mode script before (beside left was) was.buffered since rig p (Err stop)
    → IsWritten was.held mid.held was.buffered → mid.heard ≡ was.heard → mid.steps ≡ was.steps
    → Awaits mode script before (beside left mid) [] since rig p (Err stop)
all_written mode script before left was mid since rig p stop reached written heard steps =
    let due = WasDue mode script reached.events reached.flushed reached.taken in
    record {
      taken = reached.taken;
      bytes = reached.bytes;
      needed = reached.needed;
      events = reached.events;
      replay = reached.replay;
      flushed = reached.flushed;
      after = reached.after;
      taken_is = reached.taken_is;
      says = reached.says;
      stands = reached.stands;
      buffers = buffers_none due before.held (lines_of mode reached.replay) mid.held
          (buffers_written due before.held (lines_of mode reached.replay) was.held mid.held was.buffered reached.buffers
          written);
      free = inr refl;
      heard = heard ∙ reached.heard;
      cost = let c = reached.cost in omega (arith, c, steps);
    }

no_event : (events earlier later : List Event) (event : Event) → events ≡ [] → events ≡ earlier ++ event ∷ later → ⊥
no_event events [] later event none are = cc
no_event events (e ∷ earlier) later event none are = cc

module _ (mode : Mode) (script : List ℕ → Script) (before : Streams) (left : Option (List ℕ)) (mid now : Outlets)
    (since : ℕ) (rig : RigState) (p : Progress) (stop : Stop)
    (reached : Awaits mode script before (beside left mid) mid.buffered since rig p (Err stop))
    (is_small : AreSmall (plays script)) where
  -- the flush failed
  broken_ends : (lacking : ℕ) → BreaksWriting mid.held now.held mid.buffered lacking → now.heard ≡ mid.heard
      → now.steps ≡ mid.steps
      → ReadsAll script reached.replay reached.taken reached.events
      → EndsPlay mode script before (at_end (beside left now) rig) (WriteFailed lacking)
  broken_ends lacking breaks heard steps all =
      let t = reached.replay in
      let is = buffers_of mode mid.held now.held mid.buffered lacking reached.free breaks in
      let few = reached.says.few is in
      let long = ap length reached.taken_is in
      let both = length-append reached.flushed reached.after in
      let due = WasDue mode script reached.events reached.flushed reached.taken in
      let off = buffers_off due before.held (lines_of mode t) mid.held now.held mid.buffered lacking reached.buffers
      breaks in
      let cost : (rest : List ℕ) → now.steps ≤ before.steps + out_cost mode (plays script (reached.taken ++ rest)) =
      λ rest. let grows = reached.says.costs rest in let c = reached.cost in omega (arith, c, grows, steps) in
      record {
        taken = reached.taken;
        bytes = reached.bytes;
        needed = reached.needed;
        replay = off.is.replay;
        last = t;
        says = lacks_lines mode script before (beside left now) all.first t all.version reached.events
            reached.flushed reached.taken lacking off is all.begins all.says
            (leads_all all.first t reached.events all.follows) (omega (arith, few, long, both));
        is_last = tt;
        stands = reached.stands;
        heard = heard ∙ reached.heard;
        cost = cost;
        box_cost = λ rest.
            within_boxes mode (plays script) (reached.taken ++ rest) before.steps now.steps is_small (cost rest);
      }

  pub reading_ends : now.heard ≡ mid.heard → (ending : Ending)
      → EndsReading (final_output mode reached.replay.state.gpu (next_number rig.played)) stop mid now ending
      → EndsPlay mode script before (at_end (beside left now) rig) ending
  unfolding all_written
  reading_ends same ending (inl ends) =
      let written = all_written mode script before left mid ends.0 since rig p stop reached ends.1 ends.2 ends.3 in
      stop_ends mode script before left ends.0 now since rig p stop written is_small (same ∙ sym ends.2) ending ends.4
  reading_ends same ending (inr broke) =
      let due = WasDue mode script reached.events reached.flushed reached.taken in
      let off = buffers_off due before.held (lines_of mode reached.replay) mid.held now.held mid.buffered broke.0
      reached.buffers broke.2 in
      rw broke.1
      (elim reached.says.read [
        | inl none ↦ absurd (no_event reached.events off.is.earlier off.is.later off.is.event none off.is.are)
        | inr all ↦ broken_ends broke.0 broke.2 broke.3 broke.4 all
      ])
