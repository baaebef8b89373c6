-- A capture that is played while it is read. Below, `script` maps bytes to what they give to play: `script_of t` for a
-- whole capture, `script_after t progress` for what a reader has still to read.
use Rattle.std.specs.Prelude.{◌≡◌, ◌≤◌, ◌⊎◌, ℕ, List, [], ◌∷◌, ◌++◌, ◌+◌, Ok}
use Rattle.dev_io.specs.Device.{prepended, appended, AppendsPart, IsAtEnd}
use Rattle.gpu_capture.specs.Reading.{Reading as HowRead, AreFewAfter, AreNeeded, SaysFirst}
use Rattle.gpu_capture.specs.declared.event.Event.{Event}
use Rattle.gpu_capture.specs.declared.event.Stop.{Stop}
use Rattle.gpu_capture.specs.declared.event.Stop.TheVariants.{Truncated, ReadFault}
use Rattle.gpu_taps.specs.Tally.{Reading}
use Rattle.event_play.specs.PlayInput.{Among, AtEnd, PlayInput, Due, ReplayPair, among, after_replay, play_input}
use Rattle.event_play.specs.PlayInput.{replay_pair}
use Rattle.event_play.specs.Lines.{IsBuffered}
use Rattle.event_play.specs.Out.{lines_of, final_bytes, ending_under, out_bytes, out_cost, out_box_cost}
use Rattle.event_loop.specs.Pausing.{most_after}
use Rattle.event_play.specs.Replay.{Replay, Played, Script, after_event, part_fed, played_events, next_number}
use Rattle.event_play.specs.Replay.{played_script}
use Rattle.event_play.specs.RigState.{StandsFor}
use Rattle.event_play.specs.Step.{event_words}
use Rattle.event_play.specs.Streams.{Streams}
use Rattle.event_play.specs.Told.{told_notes}
use Rattle.event_play.specs.declared.ending.Ending.{Ending}
use Rattle.event_play.specs.declared.ending.Ending.TheVariants.{Done, Stopped, Faulted, NoPicture, WriteFailed}
use Rattle.event_play.specs.declared.ending.Mode.{Mode}
use Rattle.event_play.specs.declared.ending.Mode.TheVariants.{Play as Words, Frames, Sums}

-- the bytes ended too early
abbrev pub IsShort : Ending → Type 0
IsShort (Stopped number (Truncated byte)) = Unit {0}
IsShort ending = ⊥

-- how bytes are played
abbrev pub plays : (List ℕ → Script) → List ℕ → Played
plays script bytes = played_script (script bytes)

-- how bytes are read
abbrev pub reads : (List ℕ → Script) → HowRead
reads script bytes = (script bytes).captured

-- None of these bytes is unnecessary: a proper prefix of them, played alone, is truncated.
abbrev pub AreAllNeeded : (List ℕ → Played) → List ℕ → Type 0
AreAllNeeded by_bytes taken =
    (part more : List ℕ) → taken ≡ part ++ more → (more ≡ [] → ⊥) → IsShort (by_bytes part).ending

-- a whole replay
abbrev pub whole : Replay → List ℕ → Played
whole t rest = record { replay = t; ending = Done; rest = rest }

-- a replay that stops
abbrev pub stops : Replay → (number : ℕ) → Stop → (rest : List ℕ) → Played
stops t number stop rest = record { replay = t; ending = Stopped number stop; rest = rest }

-- ---- output that could not be written

-- The mode has output after `event`: a shown word, a picture or its digest. That output follows the replay `start`, the
-- one before the event; `last` is the replay with the event.
abbrev pub DueIn : Mode → Replay → Replay → Replay → Event → Type 0
DueIn Words t start last event = (start ≡ t) × (after_event t event ≡ Ok last)
DueIn (Frames at) t start last event = (start ≡ t) × (after_event t event ≡ Ok last)
DueIn (Sums at) t start last event = (start ≡ t) × (after_event t event ≡ Ok last)
DueIn mode t start last event = ⊥

-- The events lead from replay `first` to replay `t`, whatever events follow.
pub record Follows (first : Replay) (events : List Event) (t : Replay) : Type 0 where
  pub replays : (more : List Event) (stop : Stop) (rest : List ℕ)
      → played_events first (events ++ more) stop rest ≡ played_events t more stop rest

-- How far a capture was read: the bytes read say the events `before` and then `event`, whatever bytes follow, and none
-- of them is unnecessary for `event`. The events `before` lead to the replay `t`, from the one that the capture starts
-- with.
pub record IsReadTo (script : List ℕ → Script) (t : Replay) (taken : List ℕ) (before : List Event) (event : Event)
    : Type 0 where
  pub first : Replay
  pub version : ℕ
  pub begins : (rest : List ℕ) → (script (taken ++ rest)).first ≡ first
  pub says : SaysFirst (reads script) version taken (before ++ event ∷ [])
  pub needed : AreNeeded (reads script) (before ++ event ∷ []) taken
  pub follows : Follows first before t

-- `due` is the output after the last event read: the lines that the last replay has more than the one before it.
pub record DueAtEvent (on : PlayInput) (told : ReplayPair) (due : Due) : Type 0 where
  pub before : List Event
  pub event : Event
  pub is_read : IsReadTo on.script told.replay on.taken before event
  pub inside : DueIn on.mode told.replay due.start told.last event
  pub lines : lines_of on.mode told.last ≡ lines_of on.mode due.start ++ due.bytes

-- `last` is the replay `t`, or `t` with the first words of one more event fed, perhaps none of them.
abbrev pub IsUpTo : Replay → List Event → Replay → Type 0
IsUpTo t [] last = last ≡ t
IsUpTo t (event ∷ []) last = (words : List ℕ) × (more : List ℕ)
    × (event_words t.state event ≡ words ++ more) × (last ≡ part_fed t words)
IsUpTo t events last = ⊥

-- These events lead from `first` to `last`, except that of the last event only the first words may have been fed.
pub record LeadsTo (first : Replay) (events : List Event) (last : Replay) : Type 0 where
  pub played : List Event
  pub unplayed : List Event
  pub are : events ≡ played ++ unplayed
  pub replay : Replay
  pub follows : Follows first played replay
  pub up_to : IsUpTo replay unplayed last

-- How far a capture was read while lines were buffered: the bytes read say the events before `read.event`, that event
-- and those after it, whatever bytes follow. Those before it lead to `told.replay`, all of them to `told.last`. At most
-- 4,112 bytes were read that this event does not need.
pub record IsReadPast (script : List ℕ → Script) (told : ReplayPair) (taken : List ℕ) (read : Among) : Type 0 where
  pub first : Replay
  pub version : ℕ
  pub begins : (rest : List ℕ) → (script (taken ++ rest)).first ≡ first
  pub says : SaysFirst (reads script) version taken (read.before ++ read.event ∷ read.after)
  pub follows : Follows first read.before told.replay
  pub leads : LeadsTo first (read.before ++ read.event ∷ read.after) told.last
  pub few : AreFewAfter (reads script) (read.before ++ read.event ∷ []) taken most_after

-- `due` is all lines of the items of one event, which were buffered with those of others.
pub record DueWhileBuffered (on : PlayInput) (told : ReplayPair) (due : Due) : Type 0 where
  pub buffers : IsBuffered on.mode
  pub before : List Event
  pub event : Event
  pub after : List Event
  pub is_read : IsReadPast on.script told on.taken (among before event after)
  pub next : Replay
  pub next_is : after_event told.replay event ≡ Ok next
  pub start_is : due.start ≡ told.replay
  pub lines : lines_of on.mode next ≡ lines_of on.mode due.start ++ due.bytes

-- Every event was played, and `due` is the final output.
pub record DueAtEnd (heard : List Reading) (on : PlayInput) (told : ReplayPair) (due : Due) : Type 0 where
  pub comes : (rest : List ℕ) → plays on.script (on.taken ++ rest) ≡ whole told.replay rest
  pub ends : ending_under on.mode (whole told.replay []) ≡ Done
  pub start_is : due.start ≡ told.replay
  pub last_is : told.last ≡ told.replay
  pub bytes : due.bytes
      ≡ final_bytes on.mode (told_notes told.replay.notes heard) (next_number told.replay.played) told.replay.state.gpu

-- What was written is a prefix of the whole output. Of the output `due` at `number`, at least one byte is missing. All
-- earlier output was written, and no later output.
pub record LacksBytes (on : PlayInput) (told : ReplayPair) (number : ℕ) (before now : Streams) : Type 0 where
  pub number_is : number ≡ next_number told.replay.played
  pub start : Replay
  pub due : List ℕ
  pub origin : DueAtEvent on told (after_replay start due)
      ⊎ (DueWhileBuffered on told (after_replay start due)
      ⊎ DueAtEnd before.heard on told (after_replay start due))
  pub held : AppendsPart (appended before.held (lines_of on.mode start)) now.held due
  pub prefix : (rest : List ℕ) → (more : List ℕ)
      × (out_bytes on.mode before.heard (plays on.script (on.taken ++ rest)) ≡ lines_of on.mode start ++ (due ++ more))

-- ---- the endings

-- what the bytes read say about each ending, and what was written
abbrev pub SaysEnding : PlayInput → ReplayPair → (before now : Streams) → Ending → Type 0
SaysEnding on told before now Done =
    ((rest : List ℕ) → plays on.script (on.taken ++ rest) ≡ whole told.replay rest)
    × (ending_under on.mode (whole told.replay []) ≡ Done)
    × (now.held ≡ appended before.held (lines_of on.mode told.replay
    ++ final_bytes on.mode (told_notes told.replay.notes before.heard) (next_number told.replay.played)
    told.replay.state.gpu))
SaysEnding on told before now (NoPicture number) =
    ((rest : List ℕ) → plays on.script (on.taken ++ rest) ≡ whole told.replay rest)
    × (ending_under on.mode (whole told.replay []) ≡ NoPicture number)
    × (now.held ≡ appended before.held (lines_of on.mode told.replay))
SaysEnding on told before now (Stopped number (ReadFault byte)) =
    (plays on.script on.taken ≡ stops told.replay number (Truncated byte) [])
    × (now.held ≡ appended before.held (lines_of on.mode told.replay))
SaysEnding on told before now (Stopped number (Truncated byte)) =
    (plays on.script on.taken ≡ stops told.replay number (Truncated byte) [])
    × (now.held ≡ appended before.held (lines_of on.mode told.replay)) × IsAtEnd now.left
SaysEnding on told before now (Stopped number stop) =
    ((rest : List ℕ) → plays on.script (on.taken ++ rest) ≡ stops told.replay number stop rest)
    × (now.held ≡ appended before.held (lines_of on.mode told.replay))
SaysEnding on told before now (Faulted number fault) =
    ((rest : List ℕ) → ((plays on.script (on.taken ++ rest)).replay ≡ told.replay)
    × ((plays on.script (on.taken ++ rest)).ending ≡ Faulted number fault))
    × (now.held ≡ appended before.held (lines_of on.mode told.replay))
SaysEnding on told before now (WriteFailed number) = LacksBytes on told number before now

-- The rig agrees with the last replay. This is the replay up to the ending, unless a write failed.
abbrev pub IsLast : Replay → Replay → Ending → Type 0
IsLast t last (WriteFailed number) = Unit {0}
IsLast t last ending = last ≡ t

-- How playing ends. `taken`: the bytes read, none of them unnecessary. `replay`: their replay up to the ending. `last`:
-- the replay with which the rig and the taps agree. `says`: the ending and what was written. The store steps are
-- bounded by both counts.
pub record EndsPlay (mode : Mode) (script : List ℕ → Script) (before : Streams) (now : AtEnd) (ending : Ending)
    : Type 0 where
  pub taken : List ℕ
  pub bytes : before.left ≡ prepended taken now.streams.left
  pub needed : AreAllNeeded (plays script) taken
  pub replay : Replay
  pub last : Replay
  pub says : SaysEnding (play_input mode script taken) (replay_pair replay last) before now.streams ending
  pub is_last : IsLast replay last ending
  pub stands : StandsFor now.rig last
  pub heard : now.streams.heard ≡ told_notes last.notes before.heard
  pub cost : (rest : List ℕ) → now.streams.steps ≤ before.steps + out_cost mode (plays script (taken ++ rest))
  pub box_cost : (rest : List ℕ)
      → now.streams.steps ≤ before.steps + out_box_cost mode (plays script (taken ++ rest))
