-- A source in memory that returns its bytes in pieces and fails at chosen calls (our own rule).
use Rattle.std.specs.Prelude.{◌+◌, ◌-◌, ◌^◌, ◌==◌, List, ℕ, Option, Some, None, max, min, drop, length, slice_get}
use Rattle.std.specs.Prelude.{if◌then◌else◌}

-- The bytes left, the limits of the pieces, how many calls returned a byte, the calls that fail, how many calls there
-- were, how many failed.
pub record CutState : Type 0 where
  pub left : List ℕ
  pub pieces : List ℕ
  pub given : ℕ
  pub fails : List ℕ
  pub calls : ℕ
  pub faults : ℕ

-- a limit of 0 counts as 1; without an entry there is no limit
abbrev pub bound_of : Option ℕ → ℕ
bound_of None = 2 ^ 64 - 1
bound_of (Some n) = max n 1

-- the most bytes that the next call returns
abbrev pub most_of : List ℕ → ℕ → ℕ
most_of pieces given = bound_of (slice_get pieces given)

-- how many bytes the next call returns to a buffer of length `asked`
abbrev pub gives_now : CutState → ℕ → ℕ
gives_now s asked = min (min asked (length s.left)) (most_of s.pieces s.given)

-- one more, up to 2^64 - 1
abbrev pub one_more : ℕ → ℕ
one_more n = min (n + 1) (2 ^ 64 - 1)

-- after a call that returned `n` bytes
abbrev pub after_giving : CutState → ℕ → CutState
after_giving s n = record {
  left = drop n s.left;
  pieces = s.pieces;
  given = if n == 0 then s.given else s.given + 1;
  fails = s.fails;
  calls = one_more s.calls;
  faults = s.faults;
}

-- after a failed call
abbrev pub after_failing : CutState → CutState
after_failing s = record s { calls = one_more s.calls; faults = one_more s.faults }
