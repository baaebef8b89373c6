-- Runs of cells, each in one row.
use Rattle.std.specs.Prelude.{ℕ, ◌+◌, ◌≤◌, ◌≢◌, ◌⊎◌}
use Rattle.px_num.specs.declared.shape.Cell.{Cell}

-- the n cells of a row from one cell on and those from the other on have no cell in common
abbrev pub AreApart : Cell → Cell → (n : ℕ) → Type 0
AreApart a b n = (a.y ≢ b.y) ⊎ (a.x + n ≤ b.x) ⊎ (b.x + n ≤ a.x)
