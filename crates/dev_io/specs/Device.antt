-- The effects of calls of sources and sinks (our own rules). Their bytes are a list, or `None` if contracts do not know
-- them.
use Rattle.std.specs.Prelude.{◌≡◌, ◌≤◌, ◌<◌, ◌+◌, ◌-◌, ◌^◌, ◌++◌, List, [], ℕ, Option, None, Some, Result, length}
use Rattle.std.specs.Prelude.{take, min, OnOk, OnErr}

-- a count of faults rose, or is at its maximum, 2^64 - 1
abbrev pub Rose : ℕ → ℕ → Type 0
Rose before now = min (before + 1) (2 ^ 64 - 1) ≤ now

-- what was left before these bytes were read
abbrev pub prepended : List ℕ → Option (List ℕ) → Option (List ℕ)
prepended bytes None = None
prepended bytes (Some left) = Some (bytes ++ left)

-- a source returned the first n bytes of the buffer
pub record Gives (before now : Option (List ℕ)) (buf : List ℕ) (n : ℕ) : Type 0 where
  pub fits : n ≤ length buf
  pub bytes : before ≡ prepended (take n buf) now

-- no byte is left
abbrev pub IsAtEnd : Option (List ℕ) → Type 0
IsAtEnd None = Unit {0}
IsAtEnd (Some left) = left ≡ []

-- what is held after these bytes are appended
abbrev pub appended : Option (List ℕ) → List ℕ → Option (List ℕ)
appended None bytes = None
appended (Some held) bytes = Some (held ++ bytes)

-- a sink accepted the first n bytes of the piece, at least one unless the piece is empty
pub record Accepts (before now : Option (List ℕ)) (piece : List ℕ) (n : ℕ) : Type 0 where
  pub fits : n ≤ length piece
  pub some : 0 < length piece → 0 < n
  pub held : now ≡ appended before (take n piece)

-- a proper prefix of these bytes was appended
pub record AppendsPart (before now : Option (List ℕ)) (piece : List ℕ) : Type 0 where
  pub count : ℕ
  pub part : count < length piece
  pub held : now ≡ appended before (take count piece)

-- a sink in contracts: the bytes that it holds (`None` if unknown), and its count of faults
pub record SinkSide : Type 0 where
  pub held : Option (List ℕ)
  pub faults : ℕ

abbrev pub side : {Sink : Type 0} → (held : Sink → Option (List ℕ)) → (faults : Sink → ℕ) → Sink → SinkSide
side held faults sink = record { held = held sink; faults = faults sink }

-- A call wrote these bytes to a sink: on Ok all of them were appended; on Err only a proper prefix, and the count of
-- faults rose.
pub record Writes {Value Error Sink : Type 0} (told : Sink → SinkSide) (before now : Sink) (bytes : List ℕ)
    (result : Result Value Error) : Type 0 where
  pub ok : OnOk result ((told now).held ≡ appended (told before).held bytes)
  pub failed : OnErr result (AppendsPart (told before).held (told now).held bytes)
  pub cause : OnErr result (Rose (told before).faults (told now).faults)
  pub faults : (told before).faults ≤ (told now).faults
