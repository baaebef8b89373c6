-- Sinks of the library (our own rules).
use Rattle.std.specs.Prelude.{◌≡◌, ◌≤◌, ◌<◌, ℕ, List, ◌∷◌, Option, Some, length}
use Rattle.dev_io.specs.Memory.{SinkState}

-- the sink with a fixed capacity failed only if its capacity was reached
pub record FailsWhereFull (s : SinkState) : Type 0 where
  pub fits : length s.held ≤ s.room
  pub full : 0 < s.faults → length s.held ≡ s.room

-- The sink states its capacity followed by its bytes. So its owner knows afterwards that the capacity is unchanged.
abbrev pub room_and_bytes : SinkState → Option (List ℕ)
room_and_bytes s = Some (s.room ∷ s.held)

-- a sink without a capacity: the bytes that it accepted, and its count of faults
pub record Accepted : Type 0 where
  pub held : List ℕ
  pub faults : ℕ
