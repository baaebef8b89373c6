-- A flat capture as its events are taken, one after another (our own rule).
use Rattle.std.specs.Prelude.{◌≡◌, ◌≤◌, ◌<◌, ℕ, ◌+◌, List, [], ◌∷◌, ◌++◌, Err, length}
use Rattle.event_loop.specs.Due.{pieces}
use Rattle.gathered_out.specs.Pieces.{Piece, bytes_of, piece}
use Rattle.gpu_capture.specs.Capture.{limit}
use Rattle.gpu_capture.specs.declared.event.Event.{Event}
use Rattle.gpu_capture.specs.declared.event.Stop.{Stop}
use Rattle.gpu_capture.specs.declared.event.Stop.TheVariants as stop
use Rattle.gpu_taps.specs.Tally.{Reading}
use Rattle.event_play.specs.Replay.{Replay, from_state, next_number, raised}
use Rattle.event_play.specs.RigState.{RigState, Stands, StandsFor}
use Rattle.event_play.specs.Splits.{alone}
use Rattle.event_play.specs.Step.{Machine, event_step}
use Rattle.event_play.specs.Told.{told_notes}
use Rattle.capture_flat.specs.OneEvent.{end_due}
use Rattle.capture_flat.specs.Out.{begun, due_at, flat_file, flat_version}
use Rattle.capture_flat.specs.Passing.{Follows}
use Rattle.gpu_capture.specs.declared.draft.CaptureFile.{CaptureFile}
use Rattle.capture_flat.specs.declared.refusal.FlatRefusal.{FlatRefusal}
use Rattle.capture_flat.specs.declared.refusal.FlatRefusal.TheVariants.{Fault, TooMuch}

-- what it began from: a machine, the readings of the taps, and the store steps
pub record FlatStart : Type 0 where
  pub machine : Machine
  pub heard : List Reading
  pub steps : ℕ

-- its state: the file, the machine, the readings of the taps, and the store steps
pub record FlatAt : Type 0 where
  pub file : CaptureFile
  pub rig : RigState
  pub heard : List Reading
  pub steps : ℕ

abbrev pub flat_at : CaptureFile → RigState → List Reading → ℕ → FlatAt
flat_at file rig heard steps = record { file = file; rig = rig; heard = heard; steps = steps }

pub record FlatBegins (start : FlatStart) (at : FlatAt) : Type 0 where
  pub rig : Stands at.rig start.machine
  pub played : at.rig.played ≡ 0
  pub heard : at.heard ≡ start.heard
  pub steps : at.steps ≡ start.steps

-- the replay from which a capture of this version starts, and that after events
abbrev pub first_of : FlatStart → (version : ℕ) → Replay
first_of start version = raised (from_state start.machine 0) version

abbrev pub replay_after : FlatStart → (version : ℕ) → List Event → Replay
replay_after start version events = (alone (first_of start version) events).replay

abbrev pub flat_number : FlatStart → (version : ℕ) → List Event → ℕ
flat_number start version events = next_number (replay_after start version events).played

abbrev pub flat_due : FlatStart → (version : ℕ) → List Event → Event → List Piece
flat_due start version before event =
    piece (flat_number start version before) (due_at version (replay_after start version before) event) ∷ []

abbrev pub flat_closing : FlatStart → (version : ℕ) → List Event → Stop → List Piece
flat_closing start version events stop.End =
    piece (flat_number start version events) (end_due version (replay_after start version events).played) ∷ []
flat_closing start version events stop = []

-- these events were played
pub record FlatPlays (start : FlatStart) (version : ℕ) (events : List Event) (at : FlatAt) : Type 0 where
  pub replay : Replay
  pub flat : List Event
  pub follows : Follows (first_of start version) events replay flat
  pub rig : StandsFor at.rig replay
  pub heard : at.heard ≡ told_notes replay.notes start.heard
  pub cost : at.steps ≤ start.steps + replay.cost
  pub small : replay.cost ≤ replay.box_cost
  pub counts : 1 ≤ length events → 1 ≤ replay.played

-- these events were played, and the file has their records and room for an End record
pub record FlatStands (start : FlatStart) (version : ℕ) (events : List Event) (at : FlatAt) : Type 0 where
  pub plays : FlatPlays start version events at
  pub written : bytes_of (pieces (flat_due start version) events) ≡ begun version plays.replay.played plays.flat
  pub version_is : at.file.version ≡ flat_version version
  pub low : version ≤ 3
  pub size_is : at.file.size ≡ length (begun version plays.replay.played plays.flat)
  pub fits : at.file.size + 4 ≤ limit

-- the output of the last event is not complete, and the file of all events is not too long
pub record FlatBreaks (start : FlatStart) (version : ℕ) (events : List Event) (at : FlatAt) : Type 0 where
  pub plays : FlatPlays start version events at
  pub fits : length (flat_file (first_of start version) version events) ≤ limit

-- the file of these events is not too long
pub record FitsBefore (start : FlatStart) (version : ℕ) (events : List Event) : Type 0 where
  pub replay : Replay
  pub flat : List Event
  pub follows : Follows (first_of start version) events replay flat
  pub written : bytes_of (pieces (flat_due start version) events) ≡ begun version replay.played flat
  pub fits : length (flat_file (first_of start version) version events) ≤ limit

-- the file of these events and of one more is not too long
pub record FlatKnows (start : FlatStart) (version : ℕ) (before : List Event) (event : Event) : Type 0 where
  pub replay : Replay
  pub flat : List Event
  pub follows : Follows (first_of start version) before replay flat
  pub written : bytes_of (pieces (flat_due start version) before) ≡ begun version replay.played flat
  pub fits : length (flat_file (first_of start version) version (before ++ event ∷ [])) ≤ limit

-- the event has a fault, or its records would make the file too long
abbrev pub FlatRefuses : FlatStart → (version : ℕ) → List Event → Event → FlatAt → FlatRefusal → Type 0
FlatRefuses start version events event at (Fault number fault) =
    (number ≡ flat_number start version events)
    × (event_step (replay_after start version events).state number event ≡ Err fault)
    × FlatStands start version events at
FlatRefuses start version events event at (TooMuch number) =
    (number ≡ flat_number start version events) × FlatPlays start version (events ++ event ∷ []) at
    × (limit < length (flat_file (first_of start version) version (events ++ event ∷ [])))
    × FitsBefore start version events
