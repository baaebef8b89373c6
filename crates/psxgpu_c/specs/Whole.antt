-- Playing a capture or a snapshot in memory.
use Rattle.std.specs.Prelude.{◌≡◌, ◌⊎◌, ◌/◌, ◌%◌, ◌-◌, ◌^◌, ℕ, List, [], ◌∷◌, Option, Some, None, slice_get}
use Rattle.std.specs.Prelude.{drop, length, replicate, take}
use Rattle.dev_io.specs.Device.{Rose, SinkSide}
use Rattle.event_play.specs.Replay.{from_state}
use Rattle.event_play.specs.Step.{first_machine}
use Rattle.event_play.specs.Streams.{streams}
use Rattle.event_play.specs.declared.ending.Ending.{Ending}
use Rattle.event_play.specs.declared.ending.Ending.TheVariants as ending
use Rattle.event_play.specs.declared.ending.Mode.{Mode}
use Rattle.event_play.specs.declared.ending.Mode.TheVariants as mode
use Rattle.event_play.specs.declared.ending.FrameTrigger.TheVariants as frame_trigger
use Rattle.gpu_snapshot.specs.PlayAny.{AnyMayReadFault, AnyMayWriteFault, EndsAny}
use Rattle.gpu_snapshot.specs.declared.ending.AnyEnding.{AnyEnding}
use Rattle.gpu_snapshot.specs.declared.ending.AnyEnding.TheVariants as any
use Rattle.gpu_taps.specs.Tally.{Reading}
use Rattle.px_num.specs.declared.shape.Cell.{Cell}
use Rattle.psxgpu_c.specs.Codes.{at_fault, at_place, at_stop, numbers, refused}
use Rattle.psxgpu_c.specs.Shown.{StandsInFront}
use Rattle.psxgpu_c.specs.declared.ended.Ended.{Ended}
use Rattle.psxgpu_c.specs.declared.refusal.Refusal.TheVariants as refusal

-- a column in the low half of a word, and a row in the high half
abbrev pub cell_in : ℕ → Cell
cell_in word = record { x = word % 2 ^ 16; y = word / 2 ^ 16 }

-- the modes in the order of their numbers; the cell is for `Pixel`
abbrev pub modes : Cell → List Mode
modes cell =
    mode.Play ∷ mode.Vram ∷ mode.Shot ∷ mode.List ∷ mode.Report ∷ mode.Frames frame_trigger.Flip
    ∷ mode.Frames frame_trigger.Mark
    ∷ mode.Sums frame_trigger.Flip ∷ mode.Sums frame_trigger.Mark ∷ mode.Pixel cell ∷ []

abbrev pub mode_named : (number cell : ℕ) → Option Mode
mode_named number cell = slice_get (modes (cell_in cell)) number

-- ---- endings

abbrev pub at_ending : Ending → Ended
at_ending ending.Done = numbers 0 0 0 0
at_ending (ending.Stopped event stop) = at_stop event stop
at_ending (ending.Faulted event fault) = at_fault event fault
at_ending (ending.NoPicture event) = numbers 10 event 0 0
at_ending (ending.WriteFailed event) = numbers 11 event 0 0

abbrev pub at_end : AnyEnding → Ended
at_end (any.Played ending) = at_ending ending
at_end (any.BadSnapshot byte word) = at_place 12 1 byte word

-- ---- playing

-- the state of the taps of a report before the first note: no note of any class, none of the last ones, and no area
abbrev pub new_taps : List Reading
new_taps = record { kind = 0; numbers = replicate 10 0 }
    ∷ record { kind = 1; numbers = [] }
    ∷ record { kind = 2; numbers = replicate 3 0 } ∷ []

-- A new machine played these bytes to a sink, with taps in this state. The source never failed.
pub record PlaysSink (m : Mode) (first : List Reading) (bytes : List ℕ) (before now : SinkSide) (end : AnyEnding)
    : Type 0 where
  pub left : List ℕ
  pub heard : List Reading
  pub steps : ℕ
  pub steps_now : ℕ
  pub ends : EndsAny m (from_state first_machine 0) (streams (Some bytes) before.held first steps)
      (streams (Some left) now.held heard steps_now) end
  pub never_fails : AnyMayReadFault end → ⊥
  pub cause : AnyMayWriteFault end → Rose before.faults now.faults

-- A new machine played these bytes, with new taps, and `held` is what it wrote. `told` has the details of the ending.
-- The source never failed, and a write failed only if the bytes that were written are `Full`.
pub record PlaysTo (m : Mode) (bytes : List ℕ) (Full : List ℕ → Type 0) (held : List ℕ) (told : Ended) : Type 0 where
  pub end : AnyEnding
  pub left : List ℕ
  pub heard : List Reading
  pub steps : ℕ
  pub steps_now : ℕ
  pub ends : EndsAny m (from_state first_machine 0) (streams (Some bytes) (Some []) new_taps steps)
      (streams (Some left) (Some held) heard steps_now) end
  pub never_fails : AnyMayReadFault end → ⊥
  pub full : AnyMayWriteFault end → Full held
  pub is_told : told ≡ record (at_end end) { written = length held }

-- What it wrote is at the start of the buffer. A write failed only if the buffer is full.
pub record PlaysInto (m : Mode) (bytes before now : List ℕ) (told : Ended) : Type 0 where
  pub held : List ℕ
  pub plays : PlaysTo m bytes (λ held. length held ≡ length before) held told
  pub front : StandsInFront held before now

-- What it wrote was only counted. A write failed only after 2^64 - 1 bytes.
pub record IsCounted (m : Mode) (bytes : List ℕ) (told : Ended) : Type 0 where
  pub held : List ℕ
  pub plays : PlaysTo m bytes (λ held. length held ≡ 2 ^ 64 - 1) held told

-- What it wrote is kept. No write failed.
abbrev pub Keeps : (m : Mode) (bytes held : List ℕ) (told : Ended) → Type 0
Keeps m bytes held told = PlaysTo m bytes (λ _. ⊥) held told

-- nothing was played if there is no such mode, or if memory ran out
abbrev pub PlaysMode : Option Mode → (bytes before now : List ℕ) → (told : Ended) → Type 0
PlaysMode None bytes before now told = (told ≡ refused refusal.BadMode) × (now ≡ before)
PlaysMode (Some m) bytes before now told =
    PlaysInto m bytes before now told ⊎ ((told ≡ refused refusal.NoMemory) × (now ≡ before))

-- the same if the output is counted
abbrev pub CountsMode : Option Mode → (bytes : List ℕ) → (told : Ended) → Type 0
CountsMode None bytes told = told ≡ refused refusal.BadMode
CountsMode (Some m) bytes told = IsCounted m bytes told ⊎ (told ≡ refused refusal.NoMemory)

-- ---- an output in a handle

-- An empty handle received the output; it stays empty if there is no such mode, or if memory ran out. A handle that has
-- an output keeps it.
abbrev pub KeepsMode : Option Mode → (bytes : List ℕ) → (before now : Option (List ℕ)) → (told : Ended) → Type 0
KeepsMode m bytes (Some was) now told = (told ≡ refused refusal.Open) × (now ≡ Some was)
KeepsMode None bytes None now told = (told ≡ refused refusal.BadMode) × (now ≡ None)
KeepsMode (Some m) bytes None (Some held) told = Keeps m bytes held told
KeepsMode (Some m) bytes None None told = told ≡ refused refusal.NoMemory

-- the bytes of an output from an offset on, at most `room` of them; none without an output
abbrev pub piece_of : Option (List ℕ) → (offset room : ℕ) → List ℕ
piece_of None offset room = []
piece_of (Some held) offset room = take room (drop offset held)

-- they were written to the start of the buffer, as many as it has room for, and the result is their number
abbrev pub Copies : Option (List ℕ) → (offset : ℕ) → (before now : List ℕ) → (count : ℕ) → Type 0
Copies held offset before now count =
    let due = piece_of held offset (length before) in StandsInFront due before now × (count ≡ length due)
