-- What the calls of C write to main memory, and which DMA channels they start.
use Rattle.std.specs.Prelude.{◌≡◌, ◌+◌, ◌*◌, ◌%◌, ◌^◌, ◌==◌, ◌&&◌, ℕ, zero, suc, Bool, true, false, List, Option}
use Rattle.std.specs.Prelude.{Some, None}
use Rattle.std.specs.Prelude.{Result, Err, if◌then◌else◌, length, nat_lt, slice_index}
use Rattle.gpu_capture.specs.declared.event.Event.{Event}
use Rattle.ot_clear_dma.specs.Ram.{set}
use Rattle.event_play.specs.PlayedWords.{number_after}
use Rattle.event_play.specs.RigState.{RigState}
use Rattle.psxgpu_c.specs.Calls.{Plays}
use Rattle.psxgpu_c.specs.Codes.{code_for}
use Rattle.psxgpu_c.specs.declared.refusal.Refusal.{Refusal}
use Rattle.psxgpu_c.specs.declared.refusal.Refusal.TheVariants as refusal

-- ---- writing words to main memory

-- `count` words from this address on are all in main memory
abbrev pub lie_in_memory : (address count : ℕ) → Bool
lie_in_memory address count = (address % 4 == 0) && nat_lt (address + 4 * count) (2 ^ 21 + 1)

-- the first n of these words are written, in order
abbrev pub put_first : List ℕ → (address : ℕ) → List ℕ → (n : ℕ) → List ℕ
put_first ram address words zero = ram
put_first ram address words (suc n) = set (put_first ram address words n) (address + 4 * n) (slice_index words n)

-- all are written, one event per word
abbrev pub filled : (address : ℕ) → List ℕ → RigState → RigState
filled address words was = record was {
  ram = put_first was.ram address words (length words);
  played = number_after was.played (length words);
}

-- the words were written; or they are not all in main memory, and nothing changed
abbrev pub FillsWhere : (inside : Bool) → (due was rig : RigState) → (code : ℕ) → Type 0
FillsWhere true due was rig code = (code ≡ 0) × (rig ≡ due)
FillsWhere false due was rig code = (code ≡ code_for refusal.BadAddress) × (rig ≡ was)

abbrev pub Fills : (address : ℕ) → List ℕ → (was rig : RigState) → (code : ℕ) → Type 0
Fills address words was rig code =
    FillsWhere (lie_in_memory address (length words)) (filled address words was) was rig code

-- ---- channels

-- nothing changed, because of `why` or because there is no machine
abbrev pub Refuses : (before now : Option RigState) → Refusal → (Result (Option ℕ) Refusal → Type 0) → Type 0
Refuses None now why Says = (now ≡ None) × Says (Err refusal.Closed)
Refuses (Some was) now why Says = (now ≡ Some was) × Says (Err why)

-- the channel with this number, if there is one
abbrev pub channel_named : ℕ → Option ℕ
channel_named number = if number == 2 then Some 2 else (if number == 6 then Some 6 else None)

-- the start of the channel was played, if there is one
abbrev pub Starts : (channel : Option ℕ) → (start : ℕ → Event) → (before now : Option RigState)
    → (Result (Option ℕ) Refusal → Type 0) → Type 0
Starts (Some channel) start before now Says = Plays before now (start channel) Says
Starts None start before now Says = Refuses before now refusal.BadChannel Says
