use Rattle.std.proofs.Common.{◌≡◌, ◌*◌, take}
use Rattle.picture_out.specs.Dump.{dump}
use Rattle.picture_out.proofs.dump.put_lanes.Given as goal

abbrev pub invariant-loop-j : goal.invariant-loop-j
invariant-loop-j l = take (2 * l.j) l.bytes ≡ dump (take l.j l.lanes)
