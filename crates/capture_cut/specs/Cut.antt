-- A capture that is cut after its first n events (our own rule).
use Rattle.std.specs.Prelude.{◌≡◌, ◌≤◌, ◌<◌, ◌⊎◌, ◌==◌, ℕ, List, [], ◌∷◌, ◌++◌, ◌+◌, Option, Err, length}
use Rattle.std.specs.Prelude.{if◌then◌else◌, Result, IfErr}
use Rattle.dev_io.specs.Device.{prepended, appended, AppendsPart, Rose}
use Rattle.gathered_out.specs.Causes.{Causes}
use Rattle.gpu_capture.specs.Capture.{capture, limit}
use Rattle.gpu_capture.specs.Reading.{AreFewAfter, AreNeeded, AreNeededToEnd, Said, SaysFirst, SaysStop}
use Rattle.gpu_capture.specs.Written.{spelled, spelled_end, AllowsAll}
use Rattle.gpu_capture.specs.declared.event.Event.{Event}
use Rattle.gpu_capture.specs.declared.event.Stop.{Stop}
use Rattle.gpu_capture.specs.declared.event.Stop.TheVariants.{End, ReadFault}
use Rattle.gpu_taps.specs.Tally.{Reading}
use Rattle.picture_out.specs.Dump.{dump_cost}
use Rattle.event_play.specs.Ends.{IsNotEnd}
use Rattle.event_loop.specs.Pausing.{most_after}
use Rattle.event_play.specs.Replay.{Replay, played_events, raised}
use Rattle.event_play.specs.RigState.{RigState, StandsFor}
use Rattle.event_play.specs.Step.{event_step}
use Rattle.event_play.specs.Streams.{Streams}
use Rattle.event_play.specs.Told.{told_notes}
use Rattle.event_play.specs.declared.fault.EventFault.{EventFault}
use Rattle.event_loop.specs.Ending as loop
use Rattle.capture_cut.specs.Ended.{cut_ended}
use Rattle.capture_cut.specs.File.{snapshot, begun, cut_file, rig_of, IsWritable}
use Rattle.capture_cut.specs.declared.ending.CutEnding.{CutEnding}
use Rattle.capture_cut.specs.declared.ending.CutEnding.TheVariants.{Done, PastEnd, Stopped, Faulted, TooLong}
use Rattle.capture_cut.specs.declared.ending.CutEnding.TheVariants.{WriteFailed}

-- how far a capture was read: its version, the bytes read, the events played, the replay after them, and the later
-- events, which are not played
pub record Way : Type 0 where
  pub version : ℕ
  pub taken : List ℕ
  pub played : List Event
  pub replay : Replay
  pub later : List Event

abbrev pub events_of : Way → List Event
events_of way = way.played ++ way.later

-- what the bytes read say
abbrev pub said_of : Way → Said
said_of way = record { version = way.version; events = events_of way }

-- ---- the reading

-- The reader stopped after the events of the `Way`, and read no byte that it did not need for that.
pub record StopsAfter (way : Way) (stop : Stop) (left : Option (List ℕ)) : Type 0 where
  pub says : SaysStop capture way.taken (said_of way) stop left
  pub needed : AreNeededToEnd capture (events_of way) way.taken

-- The bytes read say these events first, and none of them is unnecessary.
pub record ReadsTo (way : Way) (events : List Event) : Type 0 where
  pub says : SaysFirst capture way.version way.taken events
  pub needed : AreNeeded capture events way.taken

-- ---- the playing

-- The events lead from replay `first` to replay `t`, whatever events follow.
pub record Plays (first : Replay) (events : List Event) (t : Replay) : Type 0 where
  pub replays : (more : List Event) (stop : Stop) (rest : List ℕ)
      → played_events first (events ++ more) stop rest ≡ played_events t more stop rest
  pub counts : t.played ≡ length events

-- the rig and the taps are as after a replay
pub record StandsAfter (t : Replay) (before now : List Reading) (rig : RigState) : Type 0 where
  pub rig_is : StandsFor rig t
  pub heard : now ≡ told_notes t.notes before

-- At most n events were played. Later ones are read only after n were played.
pub record IsInOrder (n : ℕ) (way : Way) : Type 0 where
  pub most : length way.played ≤ n
  pub first : length way.played < n → way.later ≡ []

-- ---- the endings

-- The first n events were played, all others were read, and the whole file was written. The state can be read again:
-- its values are in their bounds. The records of the later events are valid from version 2 on.
pub record IsCut (n : ℕ) (way : Way) (before now : Streams) : Type 0 where
  pub all : length way.played ≡ n
  pub stops : StopsAfter way End now.left
  pub held : now.held ≡ appended before.held (cut_file way.replay way.later)
  pub writable : IsWritable (rig_of way.replay)
  pub allowed : AllowsAll 2 way.later
  pub fits : length (cut_file way.replay way.later) ≤ limit

-- The cut ends before n events were played, at event `number`, the next one. Nothing was written.
pub record IsEarly (n : ℕ) (way : Way) (number : ℕ) (before now : Streams) : Type 0 where
  pub number_is : number ≡ length way.played + 1
  pub few : length way.played < n
  pub held : now.held ≡ before.held

-- the output of the events of a `Way`: none before event n
abbrev pub due_after : ℕ → Way → List ℕ
due_after n way = if length way.played == n then begun way.replay way.later else []

-- The cut ends after the events read, and all their output was written. `number`: the number of the next event.
pub record IsStopped (n : ℕ) (way : Way) (number : ℕ) (before now : Streams) : Type 0 where
  pub number_is : number ≡ length (events_of way) + 1
  pub held : now.held ≡ appended before.held (due_after n way)

-- Event `number`, the next after those played, has a fault.
pub record HasFault (way : Way) (number : ℕ) (fault : EventFault) : Type 0 where
  pub event : Event
  pub reads : ReadsTo way (way.played ++ event ∷ [])
  pub fault_is : event_step way.replay.state number event ≡ Err fault

-- `event`, with this number, is the last event read, and is not played. `before`: the later events before it.
pub record IsLast (n : ℕ) (way : Way) (number : ℕ) (before : List Event) (event : Event) : Type 0 where
  pub all : length way.played ≡ n
  pub number_is : number ≡ length (events_of way)
  pub are : way.later ≡ before ++ event ∷ []
  pub reads : ReadsTo way (events_of way)

-- With the record of the last event the file would be too long; without it, it would not. No byte of it was written.
pub record IsLong (n : ℕ) (way : Way) (number : ℕ) (before now : Streams) : Type 0 where
  pub earlier : List Event
  pub event : Event
  pub last : IsLast n way number earlier event
  pub held : now.held ≡ appended before.held (begun way.replay earlier)
  pub fits : length (cut_file way.replay earlier) ≤ limit
  pub long : limit < length (cut_file way.replay way.later)

-- a proper prefix of the file header and the state was written, at event n
pub record LacksState (n : ℕ) (way : Way) (number : ℕ) (before now : Streams) : Type 0 where
  pub all : length way.played ≡ n
  pub number_is : number ≡ n
  pub none : way.later ≡ []
  pub reads : ReadsTo way way.played
  pub held : AppendsPart before.held now.held (snapshot way.replay)

-- A proper prefix of the record of event `number` was written, after all earlier output. Later events may have been
-- read while the record was buffered. At most 4,112 bytes were read that this event does not need.
pub record LacksRecord (n : ℕ) (way : Way) (number : ℕ) (before now : Streams) : Type 0 where
  pub all : length way.played ≡ n
  pub earlier : List Event
  pub event : Event
  pub rest : List Event
  pub are : way.later ≡ earlier ++ event ∷ rest
  pub number_is : number ≡ length (way.played ++ earlier) + 1
  pub says : SaysFirst capture way.version way.taken (events_of way)
  pub few : AreFewAfter capture (way.played ++ (earlier ++ event ∷ [])) way.taken most_after
  pub held : AppendsPart (appended before.held (begun way.replay earlier)) now.held (spelled event)
  pub fits : length (cut_file way.replay (earlier ++ event ∷ [])) ≤ limit

-- a proper prefix of the End record was written
pub record LacksEnd (n : ℕ) (way : Way) (number : ℕ) (before now : Streams) : Type 0 where
  pub all : length way.played ≡ n
  pub number_is : number ≡ length (events_of way) + 1
  pub stops : StopsAfter way End now.left
  pub held : AppendsPart (appended before.held (begun way.replay way.later)) now.held spelled_end

abbrev pub SaysEnding : ℕ → Way → (before now : Streams) → CutEnding → Type 0
SaysEnding n way before now Done = IsCut n way before now
SaysEnding n way before now (PastEnd number) = IsEarly n way number before now × StopsAfter way End now.left
SaysEnding n way before now (Stopped number stop) =
    IsStopped n way number before now × StopsAfter way stop now.left × IsNotEnd stop
SaysEnding n way before now (Faulted number fault) = IsEarly n way number before now × HasFault way number fault
SaysEnding n way before now (TooLong number) = IsLong n way number before now
SaysEnding n way before now (WriteFailed number) =
    LacksState n way number before now ⊎ (LacksRecord n way number before now ⊎ LacksEnd n way number before now)

-- how a capture is cut: after `n` events, played from the replay `first` on
pub record CutAt : Type 0 where
  pub n : ℕ
  pub first : Replay

abbrev pub cut_at : (n : ℕ) → Replay → CutAt
cut_at n first = record { n = n; first = first }

-- How cutting a capture ends. The rig and the taps are as after the events played. The store steps are at most those of
-- these events, by both bounds, plus one read of all cells.
pub record EndsCut (at : CutAt) (before now : Streams) (rig : RigState) (ending : CutEnding) : Type 0 where
  pub way : Way
  pub bytes : before.left ≡ prepended way.taken now.left
  pub order : IsInOrder at.n way
  pub plays : Plays (raised at.first way.version) way.played way.replay
  pub stands : StandsAfter way.replay before.heard now.heard rig
  pub says : SaysEnding at.n way before now ending
  pub cost : now.steps ≤ before.steps + way.replay.cost + dump_cost way.replay.state.gpu.parts.m
  pub box_cost : now.steps ≤ before.steps + way.replay.box_cost + dump_cost way.replay.state.gpu.parts.m

-- ---- causes

abbrev pub MayReadFault : CutEnding → Type 0
MayReadFault ending = loop.MayReadFault (cut_ended ending)

abbrev pub MayWriteFault : CutEnding → Type 0
MayWriteFault ending = loop.MayWriteFault (cut_ended ending)

abbrev pub IsEnding : CutEnding → Type 0
IsEnding ending = loop.IsEnding (cut_ended ending)

-- An ending of code that only writes. `before`, `now`: how often the sink has failed. It is no fault of the source, and
-- a fault of the sink only if the sink failed.
pub record EndsWriting (before now : ℕ) (ending : CutEnding) : Type 0 where
  pub known : IsEnding ending
  pub read : MayReadFault ending → ⊥
  pub causes : Causes (MayWriteFault ending) before now

-- what a call of code that only writes returns; the count does not fall
pub record WritesOrEnds {Value : Type 0} (before now : ℕ) (result : Result Value CutEnding) : Type 0 where
  pub kept : before ≤ now
  pub ends : IfErr result (EndsWriting before now)
