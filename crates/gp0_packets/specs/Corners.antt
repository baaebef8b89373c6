-- The vertices of a polygon in its words.
use Rattle.std.specs.Prelude.{ℕ, List, ◌≡◌, ◌≤◌, ◌+◌, ◌-◌, ◌*◌, length, slice_index}
use Rattle.std.specs.Int.{bit_at}
use Rattle.gp0_words.specs.Kinds.{is_set}
use Rattle.gp0_packets.specs.Packets.{stride_of}
use Rattle.gp0_packets.specs.declared.polygon.Carried.{Carried}

-- what the vertices of a polygon with this command word carry
abbrev pub Carries : Carried → ℕ → Type 0
Carries carried command = (carried.shaded ≡ is_set command 28) × (carried.textured ≡ is_set command 26)

-- the words contain the whole of vertex i
abbrev pub HasCorner : List ℕ → ℕ → Type 0
HasCorner words i =
    i * stride_of (slice_index words 0) + stride_of (slice_index words 0) + (1 - bit_at (slice_index words 0) 28)
    ≤ length words
