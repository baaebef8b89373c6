-- How a copy of the records of a capture ends (our own rule).
use Rattle.std.specs.Prelude.{◌≡◌, ◌≤◌, ◌⊎◌, ◌+◌, ◌++◌, ◌∷◌, [], ℕ, List, Option, length}
use Rattle.dev_io.specs.Device.{AppendsPart, appended, prepended}
use Rattle.gathered_out.specs.Pieces.{Piece, piece}
use Rattle.gpu_capture.specs.Capture.{capture}
use Rattle.gpu_capture.specs.Reading.{AreFewAfter, AreNeededToEnd, SaysFirst, SaysStop}
use Rattle.gpu_capture.specs.Written.{spell, spelled, spelled_end}
use Rattle.gpu_capture.specs.declared.event.Event.{Event}
use Rattle.gpu_capture.specs.declared.event.Stop.{Stop}
use Rattle.gpu_capture.specs.declared.event.Stop.TheVariants.{End}
use Rattle.event_loop.specs.Ending.{Held, IsNotEnd}
use Rattle.event_loop.specs.Pausing.{most_after}
use Rattle.event_loop.specs.declared.ended.Ended.{Ended}
use Rattle.event_loop.specs.declared.ended.Ended.TheVariants.{Done, Stopped, Refused, WriteFailed}

-- the number of the event after these
abbrev pub next_number : List Event → ℕ
next_number events = length events + 1

-- the output of an event: its record
abbrev pub copy_due : List Event → Event → List Piece
copy_due before event = piece (next_number before) (spelled event) ∷ []

-- the output at a stop: an End record
abbrev pub copy_closing : List Event → Stop → List Piece
copy_closing events stop = piece (next_number events) spelled_end ∷ []

-- `count` is the number of these events, and at most `limit`
pub record IsCounted (limit : ℕ) (events : List Event) (count : ℕ) : Type 0 where
  pub count_is : count ≡ length events
  pub fits : count ≤ limit

-- how far the capture was read: its version, the bytes taken, and the events
pub record Way : Type 0 where
  pub version : ℕ
  pub taken : List ℕ
  pub events : List Event

-- the reader stopped after the events
abbrev pub StopsAt : Way → Stop → (left : Option (List ℕ)) → Type 0
StopsAt way stop left = SaysStop capture way.taken (record { version = way.version; events = way.events }) stop left

-- the records of all events and an End record are written
abbrev pub IsCopied : Way → Held → Type 0
IsCopied way held = held.now ≡ appended held.base (spell way.events ++ spelled_end)

-- The record of one of the events is incomplete. All records before it are written, and a proper part of it. At most
-- 4,112 bytes were read after those that its event needs.
pub record LacksRecord (way : Way) (number : ℕ) (held : Held) : Type 0 where
  pub earlier : List Event
  pub event : Event
  pub later : List Event
  pub are : way.events ≡ earlier ++ event ∷ later
  pub number_is : number ≡ next_number earlier
  pub says : SaysFirst capture way.version way.taken way.events
  pub few : AreFewAfter capture (earlier ++ event ∷ []) way.taken most_after
  pub part : AppendsPart (appended held.base (spell earlier)) held.now (spelled event)

-- the End record is incomplete
pub record LacksEnd (way : Way) (left : Option (List ℕ)) (number : ℕ) (held : Held) : Type 0 where
  pub stop : Stop
  pub stops : StopsAt way stop left
  pub number_is : number ≡ next_number way.events
  pub part : AppendsPart (appended held.base (spell way.events)) held.now spelled_end

-- There is one more event than the limit allows. The records of the events before it are written.
pub record IsOver (way : Way) (limit number : ℕ) (held : Held) : Type 0 where
  pub event : Event
  pub says : SaysFirst capture way.version way.taken (way.events ++ event ∷ [])
  pub full : length way.events ≡ limit
  pub number_is : number ≡ next_number way.events
  pub written : held.now ≡ appended held.base (spell way.events)

abbrev pub SaysEnding : Way → (left : Option (List ℕ)) → (limit : ℕ) → Held → Ended ℕ → Type 0
SaysEnding way left limit held Done = StopsAt way End left × IsCopied way held
SaysEnding way left limit held (Stopped number stop) =
    (number ≡ next_number way.events) × IsNotEnd stop × StopsAt way stop left × IsCopied way held
SaysEnding way left limit held (Refused number) = IsOver way limit number held
SaysEnding way left limit held (WriteFailed number) = LacksRecord way number held ⊎ LacksEnd way left number held

-- How a copy ends. Every byte taken was needed. `count` is the number of the events.
pub record EndsCopy (before left : Option (List ℕ)) (limit count : ℕ) (held : Held) (ended : Ended ℕ) : Type 0 where
  pub way : Way
  pub bytes : before ≡ prepended way.taken left
  pub needed : AreNeededToEnd capture way.events way.taken
  pub counted : IsCounted limit way.events count
  pub says : SaysEnding way left limit held ended
