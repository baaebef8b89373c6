-- Intermediate states of cutting a capture.
use Rattle.std.specs.Prelude.{◌≡◌, ◌≤◌, ◌<◌, ◌⊎◌, ℕ, List, ◌++◌, ◌+◌, ◌^◌, Option, None, Result, Ok, Err, length}
use Rattle.dev_io.specs.Device.{prepended, appended, AppendsPart}
use Rattle.gathered_out.specs.Pieces.{Piece, piece}
use Rattle.gathered_out.specs.Puts.{BreaksPut, BreaksWriting, IsPut, IsWritten, holding}
use Rattle.gpu_capture.specs.Capture.{capture, then_events, limit}
use Rattle.gpu_capture.specs.Reader.{IsReadFault, capture_from, work_left}
use Rattle.gpu_capture.specs.Written.{spelled, spelled_end, AllowsAll}
use Rattle.gpu_capture.specs.declared.event.Event.{Event}
use Rattle.gpu_capture.specs.declared.event.Stop.{Stop}
use Rattle.gpu_capture.specs.declared.event.Stop.TheVariants.{End}
use Rattle.gpu_capture.specs.declared.progress.Progress.{Progress}
use Rattle.picture_out.specs.Dump.{dump_cost}
use Rattle.event_play.specs.Ends.{IsNotEnd}
use Rattle.event_play.specs.Replay.{Replay, raised, next_number}
use Rattle.event_play.specs.RigState.{RigState}
use Rattle.event_play.specs.PlayState.{play_state}
use Rattle.event_play.specs.Step.{event_step}
use Rattle.event_play.specs.Stepping.{HasStepped, numbered}
use Rattle.event_play.specs.Streams.{Outlets, Streams}
use Rattle.gpu_capture.specs.Reading.{AreNeeded}
use Rattle.capture_cut.specs.Cut.{CutAt, Way, events_of, Plays, StandsAfter}
use Rattle.capture_cut.specs.File.{begun, rig_of, IsWritable}
use Rattle.capture_cut.specs.declared.ending.CutEnding.{CutEnding}
use Rattle.capture_cut.specs.declared.ending.CutEnding.TheVariants.{Done, PastEnd, Stopped, Faulted, TooLong}
use Rattle.capture_cut.specs.declared.ending.CutEnding.TheVariants.{WriteFailed}
use Rattle.gpu_capture.specs.declared.draft.Draft.{Draft}

-- ---- one event that is played

-- the reader returned an event, and it was played
pub record PlaysNext (t : Replay) (event : Event) (before now : Outlets) (rig : RigState) : Type 0 where
  pub shown : Option ℕ
  pub step : HasStepped t.state (numbered (next_number t.played) event) shown before (play_state now rig)
  pub played : rig.played ≡ next_number t.played

abbrev pub PlaysAnswer : Replay → Result Event Stop → (before now : Outlets) → (rig : RigState) → Type 0
PlaysAnswer t (Ok event) before now rig = PlaysNext t event before now rig
PlaysAnswer t (Err stop) before now rig = ⊥

-- nothing was played: the rig, the taps and the store steps are unchanged
pub record IsIdle (before now : Outlets) (was rig : RigState) : Type 0 where
  pub rig_is : rig ≡ was
  pub unchanged : now ≡ before

-- How a stop of the reader before event n ends the cut. `number`: the number of the next event.
abbrev pub EndsEarly : (number : ℕ) → Stop → CutEnding → Type 0
EndsEarly number stop (PastEnd at) = (at ≡ number) × (stop ≡ End)
EndsEarly number stop (Stopped at told) = (at ≡ number) × (told ≡ stop) × IsNotEnd stop
EndsEarly number stop ending = ⊥

-- how the cut ends if the event has a fault or the reader stopped
abbrev pub EndsAnswer : Replay → Result Event Stop → CutEnding → Type 0
EndsAnswer t (Ok event) (Faulted number fault) =
    (number ≡ next_number t.played) × (event_step t.state (next_number t.played) event ≡ Err fault)
EndsAnswer t (Ok event) ending = ⊥
EndsAnswer t (Err stop) ending = EndsEarly (next_number t.played) stop ending

-- the reader returned that its source failed
abbrev pub IsReadFailure : Result Event Stop → Type 0
IsReadFailure (Ok event) = ⊥
IsReadFailure (Err stop) = IsReadFault stop

-- ---- the first events

-- The reader has not stopped, and the number of its remaining steps is bounded.
pub record IsReady (progress : Progress) (stop : Option Stop) : Type 0 where
  pub goes_on : stop ≡ None
  pub few : work_left progress < 2 ^ 51

-- These events were read up to the reader's offset, and no byte that they do not need.
pub record HasRead (before now : Option (List ℕ)) (p : Progress) (taken : List ℕ) (events : List Event) : Type 0 where
  pub bytes : before ≡ prepended taken now
  pub says : (rest : List ℕ) → capture (taken ++ rest) ≡ then_events events (capture_from p rest)
  pub needed : AreNeeded capture events taken

-- the first `at.n` events were read and played
pub record PlaysFirst (at : CutAt) (before now : Streams) (rig : RigState) (p : Progress) : Type 0 where
  pub taken : List ℕ
  pub events : List Event
  pub replay : Replay
  pub many : length events ≡ at.n
  pub known : 1 ≤ p.version
  pub reads : HasRead before.left now.left p taken events
  pub plays : Plays (raised at.first p.version) events replay
  pub stands : StandsAfter replay before.heard now.heard rig
  pub cost : now.steps ≤ before.steps + replay.cost
  pub small : replay.cost ≤ replay.box_cost

-- ---- the events after them

-- the reader's state, the number of events read, and the number of bytes written
pub record Reached : Type 0 where
  pub progress : Progress
  pub count : ℕ
  pub size : ℕ

abbrev pub reached : Progress → (count size : ℕ) → Reached
reached progress count size = record { progress = progress; count = count; size = size }

-- the same if the bytes of the sink are unknown
abbrev pub unheld : Streams → Streams
unheld at = record at { held = None }

-- The first n events were played, and the later ones read. Nothing here depends on the sink.
pub record GoesOn (at : CutAt) (before now : Streams) (rig : RigState) (progress : Progress) : Type 0 where
  pub way : Way
  pub all : length way.played ≡ at.n
  pub same : way.version ≡ progress.version
  pub known : 1 ≤ progress.version
  pub reads : HasRead before.left now.left progress way.taken (events_of way)
  pub plays : Plays (raised at.first way.version) way.played way.replay
  pub stands : StandsAfter way.replay before.heard now.heard rig
  pub cost : now.steps ≤ before.steps + way.replay.cost + dump_cost way.replay.state.gpu.parts.m
  pub small : way.replay.cost ≤ way.replay.box_cost
  pub writable : IsWritable (rig_of way.replay)
  pub allowed : AllowsAll 2 way.later

-- The state after the first n events and the records of the later ones were written. An End record (4 bytes) still
-- fits.
pub record Came (at : CutAt) (before now : Streams) (rig : RigState) (r : Reached) : Type 0 where
  pub on : GoesOn at before (unheld now) rig r.progress
  pub count_is : r.count ≡ length (events_of on.way)
  pub held : now.held ≡ appended before.held (begun on.way.replay on.way.later)
  pub size_is : r.size ≡ length (begun on.way.replay on.way.later)
  pub fits : r.size + 4 ≤ limit

-- a draft, and the bytes that the sink holds (None if unknown)
pub record Writing : Type 0 where
  pub draft : Draft
  pub held : Option (List ℕ)

abbrev pub writing : Draft → (held : Option (List ℕ)) → Writing
writing draft held = record { draft = draft; held = held }

-- The record of event `number` was added to the file. An End record (4 bytes) still fits.
pub record PutsRecord (number : ℕ) (event : Event) (before now : Writing) : Type 0 where
  pub put : IsPut (piece number (spelled event)) (holding before.held before.draft.buffered)
      (holding now.held now.draft.buffered)
  pub size_is : now.draft.file.size ≡ before.draft.file.size + length (spelled event)
  pub fits : now.draft.file.size + 4 ≤ limit

-- The next record would make the file too long: the buffer was flushed, or the flush failed.
abbrev pub EndsTooLong : (number : ℕ) → List Piece → (before now : Option (List ℕ)) → CutEnding → Type 0
EndsTooLong number buffered before now (TooLong at) = (at ≡ number) × IsWritten before now buffered
EndsTooLong number buffered before now (WriteFailed at) = BreaksWriting before now buffered at
EndsTooLong number buffered before now ending = ⊥

-- The record would make the file too long and was not added; or it fits, and a write failed.
abbrev pub EndsRecord : (number : ℕ) → Event → Writing → (now : Option (List ℕ)) → CutEnding → Type 0
EndsRecord number event before now ending =
    ((limit < before.draft.file.size + length (spelled event) + 4)
    × EndsTooLong number before.draft.buffered before.held now ending)
    ⊎ ((before.draft.file.size + length (spelled event) + 4 ≤ limit) × (lacking : ℕ) × (ending ≡ WriteFailed lacking)
    × BreaksPut (piece number (spelled event)) (holding before.held before.draft.buffered) now lacking)

-- How a stop of the reader ends the cut if the buffer is empty. `number`: the number of the next event.
abbrev pub EndsAt : (number : ℕ) → Stop → (before now : Option (List ℕ)) → CutEnding → Type 0
EndsAt number stop before now Done = (stop ≡ End) × (now ≡ appended before spelled_end)
EndsAt number stop before now (WriteFailed at) = (stop ≡ End) × (at ≡ number) × AppendsPart before now spelled_end
EndsAt number stop before now (Stopped at told) = (at ≡ number) × (told ≡ stop) × IsNotEnd stop × (now ≡ before)
EndsAt number stop before now ending = ⊥

-- the same after a flush of the buffer; or the flush failed
abbrev pub EndsReading : (number : ℕ) → Stop → Writing → (now : Option (List ℕ)) → CutEnding → Type 0
EndsReading number stop before now ending =
    ((mid : Option (List ℕ)) × IsWritten before.held mid before.draft.buffered × EndsAt number stop mid now ending)
    ⊎ ((lacking : ℕ) × (ending ≡ WriteFailed lacking) × BreaksWriting before.held now before.draft.buffered lacking)
