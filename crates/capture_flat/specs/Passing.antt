-- A flat capture that is written event by event (our own rule).
use Rattle.std.specs.Prelude.{◌≡◌, ◌≤◌, ◌<◌, ◌⊎◌, ℕ, List, [], ◌∷◌, ◌++◌, ◌+◌, Err, length}
use Rattle.dev_io.specs.Device.{prepended, appended, AppendsPart}
use Rattle.gpu_capture.specs.Capture.{capture, limit}
use Rattle.gpu_capture.specs.Reading.{AreFewAfter, AreNeeded, AreNeededToEnd, Said, SaysFirst, SaysStop}
use Rattle.gpu_capture.specs.Written.{spelled_end, AllowsAll}
use Rattle.gpu_capture.specs.declared.event.Event.{Event}
use Rattle.gpu_capture.specs.declared.event.Stop.{Stop}
use Rattle.gpu_capture.specs.declared.event.Stop.TheVariants.{End, ReadFault}
use Rattle.event_play.specs.Ends.{IsNotEnd}
use Rattle.event_loop.specs.Pausing.{most_after}
use Rattle.event_play.specs.Playing.{whole}
use Rattle.event_play.specs.Replay.{Replay, played_events, played_capture, next_number, raised}
use Rattle.event_play.specs.RigState.{RigState, StandsFor}
use Rattle.event_play.specs.Step.{event_step}
use Rattle.event_play.specs.Streams.{Streams}
use Rattle.event_play.specs.Told.{told_notes}
use Rattle.event_play.specs.declared.fault.EventFault.{EventFault}
use Rattle.event_loop.specs.Ending as loop
use Rattle.capture_flat.specs.Ended.{flat_ended}
use Rattle.capture_flat.specs.Flat.{flat_replay}
use Rattle.event_play.specs.Alike.{IsFlatCapture}
use Rattle.capture_flat.specs.Out.{begun, due_at, head_due, flat_version, flat_file}
use Rattle.capture_flat.specs.declared.ending.FlatEnding.{FlatEnding}
use Rattle.capture_flat.specs.declared.ending.FlatEnding.TheVariants.{Done, Stopped, Faulted, TooLong, WriteFailed}

-- how far a capture was read and played: its version, the bytes read, the events played, their flat events, and the
-- replay after them
pub record Way : Type 0 where
  pub version : ℕ
  pub taken : List ℕ
  pub events : List Event
  pub flat : List Event
  pub replay : Replay

-- The events lead from replay `first` to `replay`, whatever events follow. `flat`: their flat events, empty if no event
-- was played.
pub record Follows (first : Replay) (events : List Event) (replay : Replay) (flat : List Event) : Type 0 where
  pub replays : (more : List Event) (stop : Stop) (rest : List ℕ)
      → played_events first (events ++ more) stop rest ≡ played_events replay more stop rest
  pub flats : (more : List Event) → flat_replay first (events ++ more) ≡ flat ++ flat_replay replay more
  pub fresh : replay.played ≡ 0 → flat ≡ []
  pub allowed : AllowsAll 2 flat

-- what the bytes read say
abbrev pub said_of : Way → Said
said_of way = record { version = way.version; events = way.events }

-- ---- the endings

-- the whole capture was read and played, and its flat capture written
pub record IsWhole (first : Replay) (way : Way) (before now : Streams) : Type 0 where
  pub says : SaysStop capture way.taken (said_of way) End now.left
  pub needed : AreNeededToEnd capture way.events way.taken
  pub plays : (rest : List ℕ) → played_capture first (way.taken ++ rest) ≡ whole way.replay rest
  pub held : now.held ≡ appended before.held (flat_file (raised first way.version) way.version way.events)
  pub is_flat : IsFlatCapture first way.replay (flat_version way.version)
      (flat_replay (raised first way.version) way.events)
      (flat_file (raised first way.version) way.version way.events)

-- The reader stopped for another reason than End. All earlier output was written.
pub record IsStopped (way : Way) (number : ℕ) (stop : Stop) (before now : Streams) : Type 0 where
  pub number_is : number ≡ next_number way.replay.played
  pub says : SaysStop capture way.taken (said_of way) stop now.left
  pub needed : AreNeededToEnd capture way.events way.taken
  pub held : now.held ≡ appended before.held (begun way.version way.replay.played way.flat)

-- The next event has a fault. All earlier output was written.
pub record HasFault (way : Way) (number : ℕ) (fault : EventFault) (before now : Streams) : Type 0 where
  pub event : Event
  pub number_is : number ≡ next_number way.replay.played
  pub needed : AreNeeded capture (way.events ++ event ∷ []) way.taken
  pub says : SaysFirst capture way.version way.taken (way.events ++ event ∷ [])
  pub fault_is : event_step way.replay.state number event ≡ Err fault
  pub held : now.held ≡ appended before.held (begun way.version way.replay.played way.flat)

-- the last event of the `Way`, and the events before it
pub record IsLast (first : Replay) (way : Way) (number : ℕ) : Type 0 where
  pub before : List Event
  pub event : Event
  pub replay : Replay
  pub flat : List Event
  pub are : way.events ≡ before ++ event ∷ []
  pub follows : Follows (raised first way.version) before replay flat
  pub number_is : number ≡ next_number replay.played
  pub needed : AreNeeded capture way.events way.taken
  pub says : SaysFirst capture way.version way.taken way.events

-- With the records of the last event the file would be too long; without them, it would not. None of them was written.
-- All earlier output was written.
pub record IsLong (first : Replay) (way : Way) (number : ℕ) (before now : Streams) : Type 0 where
  pub last : IsLast first way number
  pub held : now.held ≡ appended before.held (begun way.version last.replay.played last.flat)
  pub fits : length (flat_file (raised first way.version) way.version last.before) ≤ limit
  pub long : limit < length (flat_file (raised first way.version) way.version way.events)

-- A proper prefix of the output of event `number` was written, after all earlier output. Later events may have been
-- read and played while it was buffered. At most 4,112 bytes were read that this event does not need.
pub record LacksRecords (first : Replay) (way : Way) (number : ℕ) (before now : Streams) : Type 0 where
  pub earlier : List Event
  pub event : Event
  pub later : List Event
  pub replay : Replay
  pub flat : List Event
  pub are : way.events ≡ earlier ++ event ∷ later
  pub follows : Follows (raised first way.version) earlier replay flat
  pub number_is : number ≡ next_number replay.played
  pub says : SaysFirst capture way.version way.taken way.events
  pub few : AreFewAfter capture (earlier ++ event ∷ []) way.taken most_after
  pub held : AppendsPart (appended before.held (begun way.version replay.played flat)) now.held
      (due_at way.version replay event)
  pub fits : length (flat_file (raised first way.version) way.version (earlier ++ event ∷ [])) ≤ limit

-- a proper prefix of the End record was written, or of the file header and the End record if there was no event
pub record LacksEnd (first : Replay) (way : Way) (number : ℕ) (before now : Streams) : Type 0 where
  pub number_is : number ≡ next_number way.replay.played
  pub needed : AreNeededToEnd capture way.events way.taken
  pub says : SaysStop capture way.taken (said_of way) End now.left
  pub held : AppendsPart (appended before.held (begun way.version way.replay.played way.flat)) now.held
      (head_due way.version way.replay.played ++ spelled_end)
  pub fits : length (flat_file (raised first way.version) way.version way.events) ≤ limit

abbrev pub SaysEnding : Replay → Way → (before now : Streams) → FlatEnding → Type 0
SaysEnding first way before now Done = IsWhole first way before now
SaysEnding first way before now (Stopped number stop) = IsStopped way number stop before now × IsNotEnd stop
SaysEnding first way before now (Faulted number fault) = HasFault way number fault before now
SaysEnding first way before now (TooLong number) = IsLong first way number before now
SaysEnding first way before now (WriteFailed number) =
    LacksRecords first way number before now ⊎ LacksEnd first way number before now

-- Unless the ending is `TooLong` or `WriteFailed`, the whole file of the events played is not too long. For a failed
-- write, `LacksRecords` and `LacksEnd` bound the file.
abbrev pub Fits : (first : Replay) (way : Way) → FlatEnding → Type 0
Fits first way (TooLong number) = Unit {0}
Fits first way (WriteFailed number) = Unit {0}
Fits first way ending = length (flat_file (raised first way.version) way.version way.events) ≤ limit

-- How a flat capture ends. `way` has all events played, including one whose records were too long or incomplete. The
-- rig and the taps are as after these events. The store steps are at most those of these events, by both bounds.
pub record EndsFlat (first : Replay) (before now : Streams) (rig : RigState) (ending : FlatEnding) : Type 0 where
  pub way : Way
  pub bytes : before.left ≡ prepended way.taken now.left
  pub follows : Follows (raised first way.version) way.events way.replay way.flat
  pub says : SaysEnding first way before now ending
  pub fits : Fits first way ending
  pub stands : StandsFor rig way.replay
  pub heard : now.heard ≡ told_notes way.replay.notes before.heard
  pub cost : now.steps ≤ before.steps + way.replay.cost
  pub box_cost : now.steps ≤ before.steps + way.replay.box_cost

-- ---- causes

abbrev pub MayReadFault : FlatEnding → Type 0
MayReadFault ending = loop.MayReadFault (flat_ended ending)

abbrev pub MayWriteFault : FlatEnding → Type 0
MayWriteFault ending = loop.MayWriteFault (flat_ended ending)

abbrev pub IsEnding : FlatEnding → Type 0
IsEnding ending = loop.IsEnding (flat_ended ending)
