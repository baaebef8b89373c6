-- What the files contain that cutting a capture writes (our own rule).
use Rattle.std.specs.Prelude.{◌≡◌, ◌≤◌, ℕ, List, [], ◌++◌, length}
use Rattle.gpu_capture.specs.Capture.{limit}
use Rattle.gpu_capture.specs.Written.{AllowsAll}
use Rattle.gpu_capture.specs.declared.event.Event.{Event}
use Rattle.gpu_capture.specs.declared.event.Stop.TheVariants.{End}
use Rattle.gpu_taps.specs.Tally.{Reading}
use Rattle.event_play.specs.AlikeStates.{StandAlike, PlayAlike}
use Rattle.event_play.specs.Out.{lines_of, out_bytes}
use Rattle.event_play.specs.Replay.{Replay, Played, played_events, from_state}
use Rattle.event_play.specs.Splits.{alone}
use Rattle.event_play.specs.Streams.{Streams}
use Rattle.event_play.specs.Told.{told_notes}
use Rattle.event_play.specs.declared.ending.Ending.TheVariants.{Done}
use Rattle.event_play.specs.declared.ending.Mode.{Mode}
use Rattle.capture_cut.specs.Cut.{Way, Plays, IsCut}
use Rattle.capture_cut.specs.File.{cut_file}
use Rattle.gpu_snapshot.specs.Laws.{snapshot_of, IsSpelledWhole}
use Rattle.gpu_snapshot.specs.PlayAny.{played_file}
use Rattle.gpu_snapshot.specs.Restored.{version_after}

-- The machine is within the bounds, the version of its height allows the later events, and the file of both is not too
-- long.
pub record IsCutWhole (t : Replay) (later : List Event) : Type 0 where
  pub state : IsSpelledWhole (snapshot_of t.state t.played)
  pub allowed : AllowsAll (version_after t.state.gpu.parts.regs.height) later
  pub fits : length (cut_file t later) ≤ limit

-- the replay of the file of a state and its later events, whatever bytes follow; `start` is a state that does not
-- matter
abbrev pub played_cut : (start t : Replay) → (later : List Event) → (rest : List ℕ) → Played
played_cut start t later rest = played_file start (cut_file t later ++ rest)

-- they ended in the same way, on alike machines, after the same number of events
pub record EndAlike (r q : Played) : Type 0 where
  pub state : StandAlike r.replay.state q.replay.state
  pub played : r.replay.played ≡ q.replay.played
  pub ending : r.ending ≡ q.ending
  pub rest : r.rest ≡ q.rest

-- A cut file plays its events as the machine that was cut would continue with them.
abbrev pub GoesOn : Type 0
GoesOn = (start t : Replay) (later : List Event) (rest : List ℕ) → IsCutWhole t later
    → PlayAlike (played_cut start t later rest) (played_events (from_state t.state t.played) later End rest)

-- these events have no fault, and lead to this state
abbrev pub LeadsTo : (first : Replay) → List Event → Replay → Type 0
LeadsTo first events t = alone first events ≡ record { replay = t; ending = Done; rest = [] }

-- The output of the whole replay is that of the state after the first events, then the output of the cut file, for taps
-- that received the notes of the first events.
abbrev pub WritesOn : Type 0
WritesOn = (mode : Mode) (heard : List Reading) (start first t : Replay) (events later : List Event) (rest : List ℕ)
    → LeadsTo first events t → IsCutWhole t later
    → out_bytes mode heard (played_events first (events ++ later) End rest)
    ≡ lines_of mode t ++ out_bytes mode (told_notes t.notes heard) (played_cut start t later rest)

-- The whole replay and the cut file end with the same ending, on alike machines, after the same number of events.
abbrev pub EndsOn : Type 0
EndsOn = (start first t : Replay) (events later : List Event) (rest : List ℕ) → LeadsTo first events t
    → IsCutWhole t later → EndAlike (played_cut start t later rest) (played_events first (events ++ later) End rest)

-- the events that cutting a capture plays have no fault, and lead to the state whose file is written
abbrev pub PlaysLead : Type 0
PlaysLead = (first t : Replay) (events : List Event) → Plays first events t → LeadsTo first events t

-- a file that `cut` has written completely
abbrev pub CutsAreWhole : Type 0
CutsAreWhole = (n : ℕ) (way : Way) (before now : Streams) → IsCut n way before now → IsCutWhole way.replay way.later

-- Files cut from captures continue those captures, write the rest of their output, and end as they end.
pub record CutLaw : Type 0 where
  pub leads : PlaysLead
  pub whole : CutsAreWhole
  pub goes_on : GoesOn
  pub writes_on : WritesOn
  pub ends_on : EndsOn
