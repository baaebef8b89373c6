-- The bytes that are written of the events that stay (our own rule). Without any of them, nothing is written before the
-- end, not even the file header.
use Rattle.std.specs.Prelude.{◌≡◌, ◌≤◌, ◌<◌, ℕ, List, [], ◌∷◌, ◌++◌, ◌+◌, Option, Some, length}
use Rattle.dev_io.specs.Device.{appended, AppendsPart}
use Rattle.gpu_capture.specs.Capture.{head_of, limit}
use Rattle.gpu_capture.specs.Draft.{head_at}
use Rattle.gpu_capture.specs.Written.{spelled, written}
use Rattle.gpu_capture.specs.declared.event.Event.{Event}
use Rattle.gpu_capture.specs.Written.{spell}
use Rattle.gathered_out.specs.Pieces.{BreaksOff, Piece, bytes_of}
use Rattle.capture_slim.specs.Places.{kept_of}
use Rattle.capture_slim.specs.declared.ending.SlimEnding.{SlimEnding}
use Rattle.capture_slim.specs.declared.ending.SlimEnding.TheVariants.{TooLong, WriteFailed}
use Rattle.gpu_capture.specs.declared.draft.Draft.{Draft}
use Rattle.gpu_capture.specs.declared.draft.CaptureFile.{CaptureFile}

-- the output: its version, the bytes in the sink before it and now (None if the sink does not state them)
pub record Output : Type 0 where
  pub version : ℕ
  pub base : Option (List ℕ)
  pub held : Option (List ℕ)

-- the output of a draft
abbrev pub output_of : Draft → (base held : Option (List ℕ)) → Output
output_of draft base held = record { version = draft.file.version; base = base; held = held }

-- the bytes of the file after these events
abbrev pub begun : (version : ℕ) → List Event → List ℕ
begun version [] = []
begun version (e ∷ events) = head_of version ++ spell (e ∷ events)

-- the file header if there is no event yet: it is written with the first record or with End
abbrev pub head_due : (version : ℕ) → List Event → List ℕ
head_due version [] = head_of version
head_due version (e ∷ events) = []

-- these events were written
pub record IsFile (file : CaptureFile) (base held : Option (List ℕ)) (kept : List Event) : Type 0 where
  pub stands : held ≡ appended base (begun file.version kept)
  pub size_is : file.size ≡ length (begun file.version kept)
  pub fits : file.size + 4 ≤ limit

-- the record of an event, after the file header if it is the first
abbrev pub due : CaptureFile → Event → List ℕ
due file event = head_at file ++ spelled event

-- ---- after events that were written

-- with this record, the file would be too long, and it was not written
pub record IsTooMuch (output : Output) (kept : List Event) (event : Event) : Type 0 where
  pub stands : output.held ≡ appended output.base (begun output.version kept)
  pub fits : length (begun output.version kept) + 4 ≤ limit
  pub long : limit < length (written output.version (kept ++ event ∷ []))

-- a proper part of it was written
pub record IsLacking (output : Output) (kept : List Event) (event : Event) : Type 0 where
  pub stands : AppendsPart (appended output.base (begun output.version kept)) output.held
      (head_due output.version kept ++ spelled event)
  pub fits : length (written output.version (kept ++ event ∷ [])) ≤ limit

abbrev pub Fails : Output → List Event → Event → (number : ℕ) → SlimEnding → Type 0
Fails output kept event number (TooLong at) = (at ≡ number) × IsTooMuch output kept event
Fails output kept event number (WriteFailed at) = (at ≡ number) × IsLacking output kept event
Fails output kept event number ending = ⊥

-- ---- a list of events, None for each that was dropped

-- Event `number` stays. All events before it that stay were written, and its record would make the file too long, or a
-- proper part of it was written.
pub record FailsIn (output : Output) (outs : List (Option Event)) (number : ℕ) (ending : SlimEnding) : Type 0 where
  pub earlier : List (Option Event)
  pub event : Event
  pub later : List (Option Event)
  pub are : outs ≡ earlier ++ Some event ∷ later
  pub number_is : number ≡ length earlier + 1
  pub fails : Fails output (kept_of earlier) event number ending

-- The events that stay are written or buffered: the sink has them once the buffer is flushed. If the flush fails, one
-- of them was not written completely.
pub record IsDraft (draft : Draft) (base held : Option (List ℕ)) (outs : List (Option Event)) : Type 0 where
  pub file_is : IsFile draft.file base (appended held (bytes_of draft.buffered)) (kept_of outs)
  pub lacks : (now : Option (List ℕ)) (number : ℕ) → BreaksOff draft.buffered held now number
      → FailsIn (output_of draft base now) outs number (WriteFailed number)

-- the buffer was flushed at a record that would make the file too long, or the flush failed
abbrev pub EndsTooLong : List Piece → (before now : Option (List ℕ)) → (number : ℕ) → SlimEnding → Type 0
EndsTooLong pieces before now number (TooLong at) = (at ≡ number) × (now ≡ appended before (bytes_of pieces))
EndsTooLong pieces before now number (WriteFailed at) = BreaksOff pieces before now at
EndsTooLong pieces before now number ending = ⊥

-- these output chunks belong to event `least` or later ones
abbrev pub AreFrom : (least : ℕ) → List Piece → Type 0
AreFrom least [] = Unit {0}
AreFrom least (p ∷ pieces) = (least ≤ p.number) × AreFrom least pieces

-- a failed write was at event `least` or a later one
abbrev pub LacksFrom : (least : ℕ) → SlimEnding → Type 0
LacksFrom least (WriteFailed number) = least ≤ number
LacksFrom least ending = Unit {0}

-- after these events, one more would make the file too long, or the record of one of them was not written
abbrev pub FailsNext : Output → List (Option Event) → Event → SlimEnding → Type 0
FailsNext output outs event (TooLong at) = (at ≡ length outs + 1) × IsTooMuch output (kept_of outs) event
FailsNext output outs event (WriteFailed at) = FailsIn output outs at (WriteFailed at)
FailsNext output outs event ending = ⊥

-- the same for the first waiting event, which stays
pub record FailsFirst (output : Output) (outs : List (Option Event)) (first : Option Event)
    (ending : SlimEnding) : Type 0 where
  pub event : Event
  pub event_is : first ≡ Some event
  pub fails : FailsNext output outs event ending

-- after these events, one of the last would make the file too long, or the record of any was not written
abbrev pub FailsRest : Output → (outs last : List (Option Event)) → SlimEnding → Type 0
FailsRest output outs last (TooLong at) = (length outs < at) × FailsIn output (outs ++ last) at (TooLong at)
FailsRest output outs last (WriteFailed at) = FailsIn output (outs ++ last) at (WriteFailed at)
FailsRest output outs last ending = ⊥
