-- A sink with a fixed capacity.
use Rattle.std.proofs.Common.{◌≡◌, List, [], ℕ, length, arith}
use Rattle.dev_io.specs.Device.{Rose, appended}
use Rattle.dev_io.specs.Memory.{SinkState}
use Rattle.psxgpu_c.specs.Room.{FailsWhereFull, room_and_bytes}

-- an empty sink with this capacity
abbrev pub empty_sink : ℕ → SinkState
empty_sink room = record { held = []; room = room; faults = 0 }

-- these bytes were written to it, and its capacity is unchanged
pub record HasTaken (room : ℕ) (now : SinkState) (bytes : List ℕ) : Type 0 where
  pub held : now.held ≡ bytes
  pub room_is : now.room ≡ room

pub taken_bytes : (room : ℕ) (now : SinkState) (bytes : List ℕ)
    → room_and_bytes now ≡ appended (room_and_bytes (empty_sink room)) bytes → HasTaken room now bytes
taken_bytes room now bytes is = record { held = cc; room_is = cc }

pub full_where_failed : (now : SinkState) (before : ℕ) → Rose before now.faults → FailsWhereFull now
    → length now.held ≡ now.room
full_where_failed now before rose bounds = bounds.full (omega (arith, rose))
