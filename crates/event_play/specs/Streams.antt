-- What playing changes besides its rig.
use Rattle.std.specs.Prelude.{ℕ, List, [], Option, None}
use Rattle.gathered_out.specs.Pieces.{Piece}
use Rattle.gathered_out.specs.Puts.{SinkState}
use Rattle.gpu_taps.specs.Tally.{Reading}

-- the bytes that the sink holds (None if unknown), its count of faults, its buffer, what the taps recorded, and the
-- store steps
pub record Outlets : Type 0 where
  pub held : Option (List ℕ)
  pub faults : ℕ
  pub buffered : List Piece
  pub heard : List Reading
  pub steps : ℕ

-- the same with an empty buffer
abbrev pub outlets : (held : Option (List ℕ)) (faults : ℕ) (heard : List Reading) (steps : ℕ) → Outlets
outlets held faults heard steps =
    record { held = held; faults = faults; buffered = []; heard = heard; steps = steps }

-- the same with these pieces in the buffer
abbrev pub buffering : List Piece → Outlets → Outlets
buffering pieces at = record at { buffered = pieces }

-- the sink and its buffer; below, the same with what the taps recorded and the store steps
abbrev pub sink_of : Outlets → SinkState
sink_of at = record { held = at.held; faults = at.faults; buffered = at.buffered }

abbrev pub with_sink : SinkState → (heard : List Reading) (steps : ℕ) → Outlets
with_sink at heard steps = buffering at.buffered (outlets at.held at.faults heard steps)

-- the same for a call that writes nothing
abbrev pub without_sink : (heard : List Reading) (steps : ℕ) → Outlets
without_sink heard steps = outlets None 0 heard steps

-- for a whole capture: the bytes left of the source and those that the sink holds (None if unknown), what the taps
-- recorded, and the store steps
pub record Streams : Type 0 where
  pub left : Option (List ℕ)
  pub held : Option (List ℕ)
  pub heard : List Reading
  pub steps : ℕ

abbrev pub streams : (left held : Option (List ℕ)) (heard : List Reading) (steps : ℕ) → Streams
streams left held heard steps = record { left = left; held = held; heard = heard; steps = steps }
