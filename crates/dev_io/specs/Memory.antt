-- Sinks in memory (our own rule): the bytes held, their greatest number, and how many calls failed.
use Rattle.std.specs.Prelude.{◌-◌, ◌++◌, List, ℕ, max, min, length, take}
use Rattle.dev_io.specs.Cut.{one_more}

pub record SinkState : Type 0 where
  pub held : List ℕ
  pub room : ℕ
  pub faults : ℕ

-- how many bytes of a piece of length `offered` still fit
abbrev pub takes_now : SinkState → ℕ → ℕ
takes_now s offered = min offered (s.room - length s.held)

-- after a call that accepted `n` bytes of a piece, and after a failed call
abbrev pub after_taking : SinkState → List ℕ → ℕ → SinkState
after_taking s piece n = record s { held = s.held ++ take n piece }

abbrev pub after_refusing : SinkState → SinkState
after_refusing s = record s { faults = one_more s.faults }

-- a sink that accepts at most `piece` bytes a call and fails at the calls in `fails`, counted from 0
pub record FailState : Type 0 where
  pub held : List ℕ
  pub room : ℕ
  pub piece : ℕ
  pub fails : List ℕ
  pub calls : ℕ
  pub faults : ℕ

-- how many bytes of a piece of length `offered` the next call accepts; a limit of 0 counts as 1
abbrev pub takes_next : FailState → ℕ → ℕ
takes_next s offered = min (min offered (max s.piece 1)) (s.room - length s.held)

abbrev pub after_part : FailState → List ℕ → ℕ → FailState
after_part s piece n = record s { held = s.held ++ take n piece; calls = one_more s.calls }

abbrev pub after_fault : FailState → FailState
after_fault s = record s { calls = one_more s.calls; faults = one_more s.faults }
