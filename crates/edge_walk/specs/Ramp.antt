-- Values that all lines of a plane share (our own rule).
use Rattle.std.specs.Prelude.{ℕ, ◌+◌, ◌*◌, ◌%◌, ◌^◌, pos}
use Rattle.edge_walk.specs.declared.plane.Plane.{Plane}
use Rattle.edge_walk.specs.Plane.{number_at}

-- the number of the ninth cell if the first of sixteen cells is (0, 0); 8 is added to its upper half, as lines add it
abbrev pub start_of : Plane → ℕ
start_of plane = (number_at plane (pos 8) (pos 0) + 8 * 2 ^ 32) % 2 ^ 64
