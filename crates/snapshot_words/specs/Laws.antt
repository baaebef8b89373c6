-- Facts about all states (our own rule).
use Rattle.std.specs.Prelude.{◌≡◌, ◌<◌, ℕ, ◌+◌, ◌*◌, ◌^◌, List, ◌∷◌, [], ◌++◌, length}
use Rattle.gpu_capture.specs.Whole.{AreWords}
use Rattle.snapshot_words.specs.Outline.{IsOutline, AreMemories, outline_words, bytes_of, snap_bytes}
use Rattle.snapshot_words.specs.Reading.{Whole, outline_from, state_from}
use Rattle.snapshot_words.specs.declared.outline.Outline.{Outline}

-- Every state within the bounds whose values fit their words is read from its encoding, whatever bytes follow.
abbrev pub OutlinesAreRead : Type 0
OutlinesAreRead = (o : Outline) (offset : ℕ) (rest : List ℕ) → IsOutline o → AreWords (outline_words o)
    → outline_from offset (bytes_of (outline_words o) ++ rest)
    ≡ Whole o (offset + 4 * length (outline_words o)) rest

abbrev pub AreBytes : List ℕ → Type 0
AreBytes [] = Unit {0}
AreBytes (byte ∷ bytes) = (byte < 2 ^ 8) × AreBytes bytes

-- bytes are the encoding of a state, and a rest
pub record IsSpelled (o : Outline) (first offset : ℕ) (bytes rest : List ℕ) : Type 0 where
  pub spelled : bytes ≡ bytes_of (outline_words o) ++ rest
  pub moved : offset ≡ first + 4 * length (outline_words o)
  pub bounds : IsOutline o
  pub words : AreWords (outline_words o)

-- No other bytes are read as a state: it is within the bounds, and the bytes are its encoding and the rest.
abbrev pub OneSpelling : Type 0
OneSpelling = (o : Outline) (first offset : ℕ) (bytes rest : List ℕ) → AreBytes bytes
    → outline_from first bytes ≡ Whole o offset rest → IsSpelled o first offset bytes rest

-- the first law with both memories
abbrev pub StatesAreRead : Type 0
StatesAreRead = (o : Outline) (m ram : List ℕ) (offset : ℕ) (rest : List ℕ) → IsOutline o → AreWords (outline_words o)
    → AreMemories o m ram → state_from offset (snap_bytes o m ram ++ rest)
    ≡ Whole (record { outline = o; m = m; ram = ram }) (offset + length (snap_bytes o m ram)) rest
