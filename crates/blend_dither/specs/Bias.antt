-- Dither offsets as unsigned numbers (our own rule).
use Rattle.std.specs.Prelude.{ℕ, ◌≡◌, ℤ, pos, ◌+ℤ◌}

-- the bias of an offset is the offset plus 4
abbrev pub IsBias : ℕ → ℤ → Type 0
IsBias b s = pos b ≡ s +ℤ pos 4
