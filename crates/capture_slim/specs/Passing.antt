-- Writing a capture without its dead drawing while its events are read (our own rule).
use Rattle.std.specs.Prelude.{◌≡◌, ◌≤◌, ◌<◌, ◌⊎◌, ℕ, List, [], ◌∷◌, ◌++◌, ◌+◌, Option, length, take}
use Rattle.std.specs.Prelude.{Result, Ok, Err, IfErr}
use Rattle.dev_io.specs.Device.{prepended, appended, AppendsPart, Rose}
use Rattle.gathered_out.specs.Causes.{Causes}
use Rattle.gpu_capture.specs.Capture.{capture, limit}
use Rattle.gpu_capture.specs.Reader.{IsReadFault}
use Rattle.gpu_capture.specs.Written.{spelled_end, written}
use Rattle.gpu_capture.specs.declared.event.Event.{Event}
use Rattle.gpu_capture.specs.declared.event.Stop.{Stop}
use Rattle.gpu_capture.specs.declared.event.Stop.TheVariants.{End, ReadFault}
use Rattle.event_play.specs.Ends.{IsNotEnd}
use Rattle.event_loop.specs.Pausing.{most_after}
use Rattle.event_play.specs.Ports.{IsAtPorts, AreAtPorts}
use Rattle.event_play.specs.Replay.{Replay, played_capture, from_state}
use Rattle.event_play.specs.Step.{first_machine}
use Rattle.dead_drawing.specs.Dead.{window_events}
use Rattle.dead_drawing.specs.Laws.{height_for}
use Rattle.dead_drawing.specs.Slim.{slim_events}
use Rattle.gpu_capture.specs.Reading.{AreFewAfter, AreNeeded, AreNeededToEnd, Said, SaysFirst, SaysStop}
use Rattle.event_play.specs.Alike.{IsFlatCapture}
use Rattle.event_loop.specs.Ending as loop
use Rattle.capture_slim.specs.Ended.{slim_ended}
use Rattle.capture_slim.specs.File.{begun, head_due, Fails, Output}
use Rattle.capture_slim.specs.Places.{slim_first}
use Rattle.capture_slim.specs.declared.ending.SlimEnding.{SlimEnding}
use Rattle.capture_slim.specs.declared.ending.SlimEnding.TheVariants.{Done, Stopped, NotFlat, TooLong, WriteFailed}

-- the bytes left in the source, how often it failed, and the bytes in the sink; None if source or sink do not state
-- them
pub record Streams : Type 0 where
  pub left : Option (List ℕ)
  pub faults : ℕ
  pub held : Option (List ℕ)

abbrev pub streams : (left : Option (List ℕ)) → (faults : ℕ) → (held : Option (List ℕ)) → Streams
streams left faults held = record { left = left; faults = faults; held = held }

-- what was read of a capture: its version, the bytes, and their port events
pub record Way : Type 0 where
  pub version : ℕ
  pub taken : List ℕ
  pub events : List Event

-- the events that stay, if these are all events of a capture of this version
abbrev pub slim_of : (version : ℕ) → List Event → List Event
slim_of version events = slim_events (height_for version) events

-- its file
abbrev pub slim_file : (version : ℕ) → List Event → List ℕ
slim_file version events = written version (slim_of version events)

-- what these bytes encode
abbrev pub said_of : Way → Said
said_of way = record { version = way.version; events = way.events }

-- ---- why and when reading ended

-- the reader stopped after the events that were read; a read error only if the source has failed since
pub record StopsAfter (way : Way) (stop : Stop) (before now : Streams) : Type 0 where
  pub says : SaysStop capture way.taken (said_of way) stop now.left
  pub needed : AreNeededToEnd capture way.events way.taken
  pub cause : IsReadFault stop → Rose before.faults now.faults

-- the next event is not at the ports
pub record RefusesNext (way : Way) : Type 0 where
  pub event : Event
  pub refused : IsAtPorts event → ⊥
  pub says : SaysFirst capture way.version way.taken (way.events ++ event ∷ [])
  pub needed : AreNeeded capture (way.events ++ event ∷ []) way.taken

-- the last event read is 4,096 events after event `number`
pub record ReadsOn (way : Way) (number : ℕ) : Type 0 where
  pub number_is : length way.events ≡ number + window_events
  pub says : SaysFirst capture way.version way.taken way.events
  pub needed : AreNeeded capture way.events way.taken

-- event `number` is one of the last 4,096
pub record IsAmongLast (events : List Event) (number : ℕ) : Type 0 where
  pub some : number ≤ length events
  pub late : length events < number + window_events

-- the last event read is at least 4,096 events after event `number`
pub record ReadsBeyond (way : Way) (number : ℕ) : Type 0 where
  pub number_is : number + window_events ≤ length way.events
  pub says : SaysFirst capture way.version way.taken way.events
  pub needed : AreNeeded capture way.events way.taken

-- the record of event `number` is written now
abbrev pub IsDue : Way → (number : ℕ) → (before now : Streams) → Type 0
IsDue way number before now =
    ReadsOn way number
    ⊎ (IsAmongLast way.events number × (((stop : Stop) × StopsAfter way stop before now) ⊎ RefusesNext way))

-- The record of event `number` had to be written at the last event read, before it, or at the end of reading.
abbrev pub WasDue : Way → (number : ℕ) → (before now : Streams) → Type 0
WasDue way number before now =
    ReadsBeyond way number
    ⊎ ((number ≤ length way.events) × (((stop : Stop) × StopsAfter way stop before now) ⊎ RefusesNext way))

-- ---- the events that were read

-- the port events read from a capture of this version; `base`: the bytes in the sink before
pub record Passed : Type 0 where
  pub version : ℕ
  pub events : List Event
  pub base : Option (List ℕ)

-- what was read, as `Passed`
abbrev pub passed_on : Way → (before : Streams) → Passed
passed_on way before = record { version = way.version; events = way.events; base = before.held }

-- the output for them
abbrev pub output_to : Passed → (held : Option (List ℕ)) → Output
output_to passed held = record { version = passed.version; base = passed.base; held = held }

-- those of the first n events that stay, given all events
abbrev pub first_passed : Passed → (n : ℕ) → List Event
first_passed passed n = slim_first (height_for passed.version) n passed.events

-- they were written as if there were no others
pub record WritesAll (passed : Passed) (held : Option (List ℕ)) (number : ℕ) : Type 0 where
  pub number_is : number ≡ length passed.events + 1
  pub stands : held ≡ appended passed.base (begun passed.version (slim_of passed.version passed.events))
  pub fits : length (slim_file passed.version passed.events) ≤ limit

-- the same, and a proper part of the End record
pub record WritesPart (passed : Passed) (held : Option (List ℕ)) (number : ℕ) : Type 0 where
  pub number_is : number ≡ length passed.events + 1
  pub stands : AppendsPart (appended passed.base (begun passed.version (slim_of passed.version passed.events))) held
      (head_due passed.version (slim_of passed.version passed.events) ++ spelled_end)
  pub fits : length (slim_file passed.version passed.events) ≤ limit

-- Event `number` stays, and all events before it that stay were written. Its record would make the file too long, or a
-- proper part of it was written.
pub record FailsAt (passed : Passed) (held : Option (List ℕ)) (number : ℕ) (ending : SlimEnding) : Type 0 where
  pub earlier : ℕ
  pub number_is : number ≡ earlier + 1
  pub event : Event
  pub stays : first_passed passed number ≡ first_passed passed earlier ++ event ∷ []
  pub fails : Fails (output_to passed held) (first_passed passed earlier) event number ending

-- ---- the endings

-- a capture on a new machine
abbrev pub first : Replay
first = from_state first_machine 0

-- Everything was read and written. The output is a capture of the same version, whatever follows it: it is read as the
-- events that stay, with End. Replaying it shows the same words as replaying the input, and leaves the same status word
-- and the same video memory.
pub record IsWhole (way : Way) (before now : Streams) : Type 0 where
  pub stops : StopsAfter way End before now
  pub held : now.held ≡ appended before.held (slim_file way.version way.events)
  pub fits : length (slim_file way.version way.events) ≤ limit
  pub is_slim : (rest : List ℕ)
      → IsFlatCapture first (played_capture first (way.taken ++ rest)).replay way.version
      (slim_of way.version way.events)
      (slim_file way.version way.events)

-- the record of event `number` is written now, and would make the file too long
pub record FailsRecord (way : Way) (number : ℕ) (before now : Streams) (ending : SlimEnding) : Type 0 where
  pub due : IsDue way number before now
  pub fails : FailsAt (passed_on way before) now.held number ending

-- The record of event `number` had to be written and is the first that lacks a byte. If that was before the end of
-- reading, at most `most_after` bytes were read after the event at which it had to be written.
pub record LacksRecord (way : Way) (number : ℕ) (before now : Streams) : Type 0 where
  pub due : WasDue way number before now
  pub few : number + window_events ≤ length way.events
      → AreFewAfter capture (take (number + window_events) way.events) way.taken most_after
  pub fails : FailsAt (passed_on way before) now.held number (WriteFailed number)

-- The whole file of the events that were read is too long. If the record of event `number` had to be written before the
-- end of reading, the file is too long whatever events follow.
pub record IsTooLong (way : Way) (number : ℕ) : Type 0 where
  pub long : limit < length (slim_file way.version way.events)
  pub stays : number + window_events ≤ length way.events → (more : List Event)
      → limit < length (slim_file way.version (way.events ++ more))

-- a proper part of the End record was written
pub record LacksEnd (way : Way) (number : ℕ) (before now : Streams) : Type 0 where
  pub stops : StopsAfter way End before now
  pub writes : WritesPart (passed_on way before) now.held number

abbrev pub SaysEnding : Way → (before now : Streams) → SlimEnding → Type 0
SaysEnding way before now Done = IsWhole way before now
SaysEnding way before now (Stopped number stop) =
    WritesAll (passed_on way before) now.held number × StopsAfter way stop before now × IsNotEnd stop
SaysEnding way before now (NotFlat number) =
    WritesAll (passed_on way before) now.held number × RefusesNext way
SaysEnding way before now (TooLong number) =
    FailsRecord way number before now (TooLong number) × IsTooLong way number
SaysEnding way before now (WriteFailed number) =
    LacksRecord way number before now ⊎ LacksEnd way number before now

-- the result of `pass`: what was read, what was written and how it ended
pub record EndsSlim (before now : Streams) (ending : SlimEnding) : Type 0 where
  pub way : Way
  pub bytes : before.left ≡ prepended way.taken now.left
  pub ports : AreAtPorts way.events
  pub says : SaysEnding way before now ending

-- ---- causes

abbrev pub MayReadFault : SlimEnding → Type 0
MayReadFault ending = loop.MayReadFault (slim_ended ending)

abbrev pub MayWriteFault : SlimEnding → Type 0
MayWriteFault ending = loop.MayWriteFault (slim_ended ending)

abbrev pub IsEnding : SlimEnding → Type 0
IsEnding ending = loop.IsEnding (slim_ended ending)

-- an ending of code that only writes: it can occur, and the source is not its cause
pub record IsWriteEnding (ending : SlimEnding) : Type 0 where
  pub known : IsEnding ending
  pub read : MayReadFault ending → ⊥

-- a call ended because a write failed
abbrev pub FailsWriting : {Value : Type 0} → Result Value SlimEnding → Type 0
FailsWriting (Ok v) = ⊥
FailsWriting (Err ending) = MayWriteFault ending

-- how a call that only writes ends; `before` and `now` count the failures of the sink
pub record EndsWriting {Value : Type 0} (before now : ℕ) (result : Result Value SlimEnding) : Type 0 where
  pub known : IfErr result IsWriteEnding
  pub causes : Causes (FailsWriting result) before now
