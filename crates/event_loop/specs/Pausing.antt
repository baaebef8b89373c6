-- Output that is buffered while events are read (our own rule).
use Rattle.std.specs.Prelude.{◌≡◌, ◌<◌, ◌≤◌, ◌⊎◌, ◌+◌, ◌++◌, ℕ, List, [], ◌∷◌, length, Result, IfOk, OnOk}
use Rattle.gpu_capture.specs.Reader.{work_left}
use Rattle.gpu_capture.specs.Record.{IsEvent}
use Rattle.gpu_capture.specs.declared.event.Event.{Event}
use Rattle.gpu_capture.specs.declared.event.Stop.{Stop}
use Rattle.gpu_capture.specs.declared.progress.Progress.{Progress}
use Rattle.gathered_out.specs.Puts.{Holding, IsWritten}

-- The most bytes that are read while output is buffered: 4,096, and the 16 of one event.
abbrev pub most_after : ℕ
most_after = 4112

-- `offset` is the byte offset of the reader, `since` that of the last flush. Either the output stays buffered, and
-- fewer than 4,096 bytes were read since. Or all is written, and `at` is the new offset.
abbrev pub Pauses : (offset since : ℕ) → (before now : Holding) → (at : ℕ) → Type 0
Pauses offset since before now at =
    ((at ≡ since) × (offset < since + 4096) × (now.buffered ≡ before.buffered) × (now.held ≡ before.held))
    ⊎ ((at ≡ offset) × (now.buffered ≡ []) × IsWritten before.held now.held before.buffered)

-- If a reader returns an event, the event is in its bounds, less is left to read, and the header is read.
pub record GivesEvent (old new : Progress) (next : Result Event Stop) : Type 0 where
  pub event : IfOk next IsEvent
  pub forward : OnOk next (work_left new < work_left old)
  pub version : OnOk next (1 ≤ new.version)

-- the output of every event after these may be buffered
abbrev pub WaitsAfter : (most : List Event → Event → ℕ) → List Event → Type 0
WaitsAfter most events =
    (before : List Event) (event : Event) → length events ≤ length before → most_after ≤ most before event

-- this is known of each of `events`, which follow `before`
abbrev pub KnowsEach : (List Event → Event → Type 0) → (before events : List Event) → Type 0
KnowsEach knows before events = (earlier : List Event) (event : Event) (later : List Event)
    → events ≡ earlier ++ event ∷ later → knows (before ++ earlier) event
