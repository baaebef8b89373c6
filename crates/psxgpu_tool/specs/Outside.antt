-- What a run uses: a source, and two sinks, one of them for failures.
use Rattle.std.specs.Prelude.{◌≡◌, ◌⊎◌, ℕ, List, Option}
use Rattle.dev_io.specs.Device.{AppendsPart, Rose, SinkSide, appended}

-- a source: the bytes left (None if it does not state them), and how often it failed
pub record SourceSide : Type 0 where
  pub left : Option (List ℕ)
  pub faults : ℕ

abbrev pub source_side : Option (List ℕ) → ℕ → SourceSide
source_side left faults = record { left = left; faults = faults }

-- all of it, and the steps (accesses to video memory)
pub record Outside : Type 0 where
  pub source : SourceSide
  pub out : SinkSide
  pub err : SinkSide
  pub steps : ℕ

abbrev pub outside : (source : SourceSide) → (out err : SinkSide) → (steps : ℕ) → Outside
outside source out err steps = record { source = source; out = out; err = err; steps = steps }

-- it failed since
abbrev pub HasFailed : (before now : SinkSide) → Type 0
HasFailed before now = Rose before.faults now.faults

abbrev pub HasFailedToRead : (before now : SourceSide) → Type 0
HasFailedToRead before now = Rose before.faults now.faults

-- these bytes were written, or a proper part of them if the sink failed
abbrev pub Says : (before now : SinkSide) → (bytes : List ℕ) → Type 0
Says before now bytes = (now.held ≡ appended before.held bytes)
    ⊎ (AppendsPart before.held now.held bytes × HasFailed before now)
