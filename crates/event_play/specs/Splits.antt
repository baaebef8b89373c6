-- Replays that are cut between two events (our own rule).
use Rattle.std.specs.Prelude.{◌≡◌, ℕ, ◌+◌, List, [], ◌++◌}
use Rattle.gpu_capture.specs.declared.event.Event.{Event}
use Rattle.gpu_capture.specs.declared.event.Stop.{Stop}
use Rattle.gpu_capture.specs.declared.event.Stop.TheVariants.{End}
use Rattle.gpu_taps.specs.Tally.{Reading}
use Rattle.event_play.specs.Out.{lines_of, out_bytes}
use Rattle.event_play.specs.Replay.{Replay, Played, played_events, from_state}
use Rattle.event_play.specs.Told.{told_notes}
use Rattle.event_play.specs.declared.ending.Ending.TheVariants.{Done}
use Rattle.event_play.specs.declared.ending.Mode.{Mode}

-- the replay of a list of events, which ends with `Done` if none of them has a fault
abbrev pub alone : Replay → List Event → Played
alone t events = played_events t events End []

abbrev pub AreFaultless : Replay → List Event → Type 0
AreFaultless t events = (alone t events).ending ≡ Done

-- the replay `past`, followed by `now`
abbrev pub past_and_now : (past now : Replay) → Replay
past_and_now past now = record {
  state = now.state;
  played = now.played;
  shown = past.shown ++ now.shown;
  frames = past.frames ++ now.frames;
  notes = past.notes ++ now.notes;
  changes = past.changes ++ now.changes;
  cost = past.cost + now.cost;
  box_cost = past.box_cost + now.box_cost;
}

abbrev pub with_past : Replay → Played → Played
with_past past r = record { replay = past_and_now past r.replay; ending = r.ending; rest = r.rest }

-- If a whole replay ends with `Done`, none of its first events has a fault. Events after others without a fault
-- continue from the replay of those. What they show, note, change and cost depends only on its machine, and is added to
-- what it has. So the output is the lines of the earlier events, and then the output of the later ones. The taps of the
-- later ones have recorded the earlier notes.
pub record SplitLaw : Type 0 where
  pub first : (t : Replay) (events more : List Event) (stop : Stop) (rest : List ℕ)
      → (played_events t (events ++ more) stop rest).ending ≡ Done → AreFaultless t events
  pub goes_on : (t : Replay) (events more : List Event) (stop : Stop) (rest : List ℕ) → AreFaultless t events
      → played_events t (events ++ more) stop rest ≡ played_events (alone t events).replay more stop rest
  pub played_on : (t : Replay) (events : List Event) (stop : Stop) (rest : List ℕ)
      → played_events t events stop rest ≡ with_past t (played_events (from_state t.state t.played) events stop rest)
  pub lines : (mode : Mode) (past now : Replay)
      → lines_of mode (past_and_now past now) ≡ lines_of mode past ++ lines_of mode now
  pub out : (mode : Mode) (heard : List Reading) (past : Replay) (r : Played)
      → out_bytes mode heard (with_past past r) ≡ lines_of mode past ++ out_bytes mode (told_notes past.notes heard) r
