-- How a loop over events ends (our own rule).
use Rattle.std.specs.Prelude.{◌≡◌, ◌⊎◌, ℕ, List, [], ◌∷◌, ◌++◌, Option}
use Rattle.dev_io.specs.Device.{AppendsPart, appended, prepended}
use Rattle.gathered_out.specs.Pieces.{Piece, bytes_of}
use Rattle.gpu_capture.specs.Reading.{AreFewAfter, AreNeeded, AreNeededToEnd, Reading, SaysFirst, SaysStop}
use Rattle.gpu_capture.specs.declared.event.Event.{Event}
use Rattle.gpu_capture.specs.declared.event.Stop.{Stop}
use Rattle.gpu_capture.specs.declared.event.Stop.TheVariants.{End, ReadFault}
use Rattle.event_loop.specs.Due.{Dues, pieces}
use Rattle.event_loop.specs.declared.ended.Ended.{Ended}
use Rattle.event_loop.specs.declared.ended.Ended.TheVariants.{Done, Stopped, Refused, WriteFailed}

-- What is read and written: how bytes are read, the version, the output of an event, what else is known of it, how many
-- bytes may be read after it, and the output at a stop.
pub record Matter : Type 1 where
  pub read : Reading
  pub version : ℕ
  pub due : Dues
  pub knows : List Event → Event → Type 0
  pub most : List Event → Event → ℕ
  pub closing : List Event → Stop → List Piece

abbrev pub matter : Reading → (version : ℕ) → Dues → (List Event → Event → Type 0) → (List Event → Event → ℕ)
    → (List Event → Stop → List Piece) → Matter
matter read version due knows most closing =
    record { read = read; version = version; due = due; knows = knows; most = most; closing = closing }

-- how far it was read: the bytes taken, and the events that were passed
pub record Way : Type 0 where
  pub taken : List ℕ
  pub events : List Event

abbrev pub way_of : (taken : List ℕ) → List Event → Way
way_of taken events = record { taken = taken; events = events }

-- what the sink held before, and what it holds now
pub record Held : Type 0 where
  pub base : Option (List ℕ)
  pub now : Option (List ℕ)

abbrev pub held_at : (base now : Option (List ℕ)) → Held
held_at base now = record { base = base; now = now }

-- these pieces were written
abbrev pub AreWritten : Held → List Piece → Type 0
AreWritten held ps = held.now ≡ appended held.base (bytes_of ps)

-- all of these pieces were written, and a proper part of this one
abbrev pub LacksIn : Held → List Piece → Piece → Type 0
LacksIn held ps p = AppendsPart (appended held.base (bytes_of ps)) held.now p.bytes

-- the reader stopped after the events of the way, and every byte was needed for that
pub record StopsAfter (m : Matter) (way : Way) (stop : Stop) (left : Option (List ℕ)) : Type 0 where
  pub says : SaysStop m.read way.taken (record { version = m.version; events = way.events }) stop left
  pub needed : AreNeededToEnd m.read way.events way.taken

-- the bytes taken say the events of the way and then this one, and every byte was needed for that
pub record ReadsNext (m : Matter) (way : Way) (event : Event) : Type 0 where
  pub says : SaysFirst m.read m.version way.taken (way.events ++ event ∷ [])
  pub needed : AreNeeded m.read (way.events ++ event ∷ []) way.taken

-- The first piece that is incomplete belongs to one of the events. All output before it is written, and a proper part
-- of the piece. At most `m.most` bytes were taken after those that its event needs.
pub record LacksPiece (m : Matter) (way : Way) (number : ℕ) (held : Held) : Type 0 where
  pub earlier : List Event
  pub event : Event
  pub later : List Event
  pub are : way.events ≡ earlier ++ event ∷ later
  pub front : List Piece
  pub lacking : Piece
  pub back : List Piece
  pub pieces_are : m.due earlier event ≡ front ++ lacking ∷ back
  pub number_is : number ≡ lacking.number
  pub known : m.knows earlier event
  pub says : SaysFirst m.read m.version way.taken way.events
  pub few : AreFewAfter m.read (earlier ++ event ∷ []) way.taken (m.most earlier event)
  pub stands : LacksIn held (pieces m.due earlier ++ front) lacking

-- the first piece that is incomplete belongs to the stop of the reader
pub record LacksClosing (m : Matter) (way : Way) (number : ℕ) (held : Held) (left : Option (List ℕ)) : Type 0 where
  pub stop : Stop
  pub stops : StopsAfter m way stop left
  pub front : List Piece
  pub lacking : Piece
  pub back : List Piece
  pub pieces_are : m.closing way.events stop ≡ front ++ lacking ∷ back
  pub number_is : number ≡ lacking.number
  pub stands : LacksIn held (pieces m.due way.events ++ front) lacking

-- the next event is refused, and the output of all events before it is written
pub record RefusesEvent (m : Matter) (way : Way) (Refuses : List Event → Event → Type 0) (held : Held) : Type 0 where
  pub event : Event
  pub reads : ReadsNext m way event
  pub refuses : Refuses way.events event
  pub stands : AreWritten held (pieces m.due way.events)

-- the stop of the reader is refused, and the output of all events is written
pub record RefusesStop (m : Matter) (way : Way) (Refuses : List Event → Stop → Type 0) (held : Held)
    (left : Option (List ℕ)) : Type 0 where
  pub stop : Stop
  pub stops : StopsAfter m way stop left
  pub refuses : Refuses way.events stop
  pub stands : AreWritten held (pieces m.due way.events)

-- the reader stopped, and all output is written
pub record ClosesAt (m : Matter) (way : Way) (stop : Stop) (held : Held) (left : Option (List ℕ)) : Type 0 where
  pub stops : StopsAfter m way stop left
  pub stands : AreWritten held (pieces m.due way.events ++ m.closing way.events stop)

abbrev pub IsNotEnd : Stop → Type 0
IsNotEnd End = ⊥
IsNotEnd stop = Unit {0}

-- What is known of the passage at the end: its state after events, after a stop, after a refused event, after a refused
-- stop, and after an event with incomplete output; and the number of the next event.
pub record Taker (R : Type 0) : Type 1 where
  pub stands : List Event → Type 0
  pub closes : List Event → Stop → Type 0
  pub refuses : List Event → Event → R → Type 0
  pub refuses_stop : List Event → Stop → R → Type 0
  pub breaks : List Event → Type 0
  pub number : List Event → ℕ

abbrev pub taker : {R : Type 0} → (List Event → Type 0) → (List Event → Stop → Type 0)
    → (List Event → Event → R → Type 0) → (List Event → Stop → R → Type 0) → (List Event → Type 0) → (List Event → ℕ)
    → Taker R
taker stands closes refuses refuses_stop breaks number = record {
  stands = stands;
  closes = closes;
  refuses = refuses;
  refuses_stop = refuses_stop;
  breaks = breaks;
  number = number;
}

-- the state of the passage after a failed write: after the events of the way; or with the output of the last one
-- incomplete; or after one more event, which was refused
abbrev pub IsLeft : {R : Type 0} → Matter → Taker R → Way → Type 0
IsLeft {R} m taker way =
    taker.stands way.events
    ⊎ (taker.breaks way.events
    ⊎ ((event : Event) × (why : R) × taker.refuses way.events event why × ReadsNext m way event))

abbrev pub SaysEnded : {R : Type 0} → Matter → Taker R → Way → Held → (left : Option (List ℕ)) → Ended R → Type 0
SaysEnded m taker way held left Done = ClosesAt m way End held left × taker.closes way.events End
SaysEnded m taker way held left (Stopped number stop) =
    (number ≡ taker.number way.events) × IsNotEnd stop × ClosesAt m way stop held left × taker.closes way.events stop
SaysEnded m taker way held left (Refused why) =
    RefusesEvent m way (λ events event. taker.refuses events event why) held
    ⊎ RefusesStop m way (λ events stop. taker.refuses_stop events stop why) held left
SaysEnded m taker way held left (WriteFailed number) =
    (LacksPiece m way number held × IsLeft m taker way)
    ⊎ ((lacks : LacksClosing m way number held left) × taker.closes way.events lacks.stop)

-- How it ends: the bytes taken, of which every one was needed to see what follows the events, and what is known.
pub record Ends {R : Type 0} (m : Matter) (taker : Taker R) (before left : Option (List ℕ)) (held : Held)
    (ended : Ended R) : Type 0 where
  pub way : Way
  pub bytes : before ≡ prepended way.taken left
  pub needed : AreNeededToEnd m.read way.events way.taken
  pub says : SaysEnded m taker way held left ended

-- ---- causes

-- it may have ended by a fault of the source, or of the sink
abbrev pub MayReadFault : {R : Type 0} → Ended R → Type 0
MayReadFault (Stopped number (ReadFault byte)) = Unit {0}
MayReadFault ended = ⊥

abbrev pub MayWriteFault : {R : Type 0} → Ended R → Type 0
MayWriteFault (WriteFailed number) = Unit {0}
MayWriteFault ended = ⊥

-- it never stops with End
abbrev pub IsEnding : {R : Type 0} → Ended R → Type 0
IsEnding (Stopped number End) = ⊥
IsEnding ended = Unit {0}
