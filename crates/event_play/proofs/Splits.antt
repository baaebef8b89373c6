-- A replay that is cut between two events.
use Rattle.std.proofs.Common.{◌≡◌, ℕ, ◌++◌, List, [], ◌∷◌, Result, Ok, Err, option_to_list, refl, sym, ap, ◌∙◌}
use Rattle.std.proofs.Common.{append_assoc, append-nil, add_assoc, add-zero}
use Rattle.gpu_capture.specs.declared.event.Event.{Event}
use Rattle.gpu_capture.specs.declared.event.Stop.{Stop}
use Rattle.gpu_taps.specs.Tally.{Reading}
use Rattle.event_play.specs.Frames.{frames_after}
use Rattle.event_play.specs.Out.{lines_of, finals_at, ending_under, out_bytes}
use Rattle.event_play.specs.Splits.{alone, AreFaultless, past_and_now, with_past, SplitLaw}
use Rattle.event_play.specs.Replay.{Replay, Played, played_events, go_on, told_on, after_event, from_state, next_number}
use Rattle.event_play.specs.Step.{Stepped, event_step, event_cost, event_box_cost}
use Rattle.event_play.specs.Changes.{event_changes}
use Rattle.event_play.specs.Told.{told_notes}
use Rattle.event_play.specs.declared.ending.Ending.TheVariants.{Done, Faulted}
use Rattle.event_play.specs.declared.ending.Mode.{Mode}
use Rattle.event_play.specs.declared.fault.EventFault.{EventFault}
use Rattle.event_play.proofs.Feeds.{told-append}
use Rattle.event_play.proofs.Grows.{lines-append}

abbrev faulted : Replay → List ℕ → EventFault → Played
faulted t rest fault = record { replay = t; ending = Faulted (next_number t.played) fault; rest = rest }

-- ---- the first events

split_on : (t : Replay) (events more : List Event) (stop : Stop) (rest : List ℕ) (next : Result Replay EventFault)
    → ((u : Replay) → AreFaultless u events
    → played_events u (events ++ more) stop rest ≡ played_events (alone u events).replay more stop rest)
    → (go_on next (λ next. alone next events) (faulted t [])).ending ≡ Done
    → go_on next (λ next. played_events next (events ++ more) stop rest) (faulted t rest)
    ≡ played_events (go_on next (λ next. alone next events) (faulted t [])).replay more stop rest
split_on t events more stop rest (Ok next) after is = after next is
split_on t events more stop rest (Err fault) after is = absurd cc

-- A replay continues from the replay of its first events if these have no fault.
pub split_at : (events more : List Event) (t : Replay) (stop : Stop) (rest : List ℕ) → AreFaultless t events
    → played_events t (events ++ more) stop rest ≡ played_events (alone t events).replay more stop rest
split_at [] more t stop rest is = refl
split_at (event ∷ events) more t stop rest is =
    split_on t events more stop rest (after_event t event) (λ u. split_at events more u stop rest) is

first_on : (t : Replay) (events more : List Event) (stop : Stop) (rest : List ℕ) (next : Result Replay EventFault)
    → ((u : Replay) → (played_events u (events ++ more) stop rest).ending ≡ Done → AreFaultless u events)
    → (go_on next (λ next. played_events next (events ++ more) stop rest) (faulted t rest)).ending ≡ Done
    → (go_on next (λ next. alone next events) (faulted t [])).ending ≡ Done
first_on t events more stop rest (Ok next) after is = after next is
first_on t events more stop rest (Err fault) after is = absurd cc

-- If a whole replay has no fault, its first events have none.
pub first_faultless : (events more : List Event) (t : Replay) (stop : Stop) (rest : List ℕ)
    → (played_events t (events ++ more) stop rest).ending ≡ Done → AreFaultless t events
first_faultless [] more t stop rest is = refl
first_faultless (event ∷ events) more t stop rest is =
    first_on t events more stop rest (after_event t event) (λ u. first_faultless events more u stop rest) is

-- ---- a replay with a past

-- the past, and nothing after it
none_after : (t : Replay) → past_and_now t (from_state t.state t.played) ≡ t
none_after t = rw (
  append-nil t.shown,
  append-nil t.frames,
  append-nil t.notes,
  append-nil t.changes,
  add-zero t.cost,
  add-zero t.box_cost,
) refl

module _ (past : Replay) where
  abbrev after_past : Result Replay EventFault → Result Replay EventFault
  after_past (Ok next) = Ok (past_and_now past next)
  after_past (Err fault) = Err fault

  told_past : (now : Replay) (event : Event) (cost box_cost : ℕ) (step : Result Stepped EventFault)
      → told_on (past_and_now past now) event cost box_cost step ≡ after_past (told_on now event cost box_cost step)
  told_past now event cost box_cost (Ok step) =
      rw (
        append_assoc past.shown now.shown (option_to_list step.shown),
        append_assoc past.frames now.frames (frames_after event (next_number now.played) step.machine.gpu.parts),
        append_assoc past.notes now.notes step.notes,
        append_assoc past.changes now.changes (event_changes now.state (next_number now.played) event),
        add_assoc past.cost now.cost cost,
        add_assoc past.box_cost now.box_cost box_cost,
      ) refl
  told_past now event cost box_cost (Err fault) = refl

  goes_after : (now : Replay) (rest : List ℕ) (next : Result Replay EventFault) (on : Replay → Played)
      → ((u : Replay) → on (past_and_now past u) ≡ with_past past (on u))
      → go_on (after_past next) on (faulted (past_and_now past now) rest)
      ≡ with_past past (go_on next on (faulted now rest))
  goes_after now rest (Ok next) on after = after next
  goes_after now rest (Err fault) on after = refl

  replay_after : (events : List Event) (now : Replay) (stop : Stop) (rest : List ℕ)
      → played_events (past_and_now past now) events stop rest ≡ with_past past (played_events now events stop rest)
  replay_after [] now stop rest = refl
  replay_after (event ∷ events) now stop rest =
      let on : Replay → Played = λ next. played_events next events stop rest in
      ap (λ next. go_on next on (faulted (past_and_now past now) rest))
      (told_past now event (event_cost now.state event) (event_box_cost now.state event)
      (event_step now.state (next_number now.played) event))
      ∙ goes_after now rest (after_event now event) on (λ u. replay_after events u stop rest)

-- What later events of a replay show, note, change and cost depends only on its machine, and is added to what it has.
pub played_on : (t : Replay) (events : List Event) (stop : Stop) (rest : List ℕ)
    → played_events t events stop rest ≡ with_past t (played_events (from_state t.state t.played) events stop rest)
played_on t events stop rest =
    ap (λ t. played_events t events stop rest) (sym (none_after t))
    ∙ replay_after t events (from_state t.state t.played) stop rest

-- ---- output

pub lines_past : (mode : Mode) (past now : Replay)
    → lines_of mode (past_and_now past now) ≡ lines_of mode past ++ lines_of mode now
lines_past mode past now = lines-append mode past.shown now.shown past.frames now.frames past.notes now.notes
    past.changes now.changes

-- the lines of the past, and then the output of the rest, with taps that recorded the past's notes
pub out_past : (mode : Mode) (heard : List Reading) (past : Replay) (r : Played)
    → out_bytes mode heard (with_past past r) ≡ lines_of mode past ++ out_bytes mode (told_notes past.notes heard) r
out_past mode heard past r =
    ap (λ told. lines_of mode (past_and_now past r.replay)
    ++ finals_at (ending_under mode r) mode told (next_number r.replay.played) r.replay.state.gpu)
    (told-append past.notes r.replay.notes heard)
    ∙ ap (λ lines. lines ++ finals_at (ending_under mode r) mode
    (told_notes r.replay.notes (told_notes past.notes heard)) (next_number r.replay.played) r.replay.state.gpu)
    (lines_past mode past r.replay)
    ∙ append_assoc (lines_of mode past) (lines_of mode r.replay) _

pub replays_split : SplitLaw
replays_split = record {
  first = λ t events more. first_faultless events more t;
  goes_on = λ t events more. split_at events more t;
  played_on = played_on;
  lines = lines_past;
  out = out_past;
}
