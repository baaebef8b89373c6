-- Copies without a hazard, whatever the number of lanes.
use Rattle.std.specs.Prelude.{ℕ, ◌+◌, ◌≤◌, ◌≡◌, ◌≢◌, false}
use Rattle.px_num.specs.declared.shape.Cell.{Cell}
use Rattle.overlap_guard.specs.Hazard.{has_copy_hazard}

-- the target's row is not the source's
abbrev pub OtherRowLaw : Type 0
OtherRowLaw = (source target : Cell) (n : ℕ) → target.y ≢ source.y → has_copy_hazard source target n ≡ false

-- the target starts in the source's column or to its left
abbrev pub LeftwardLaw : Type 0
LeftwardLaw = (source target : Cell) (n : ℕ) → target.x ≤ source.x → has_copy_hazard source target n ≡ false

-- the target starts to the right of the last cell that is read
abbrev pub FarLaw : Type 0
FarLaw = (source target : Cell) (n : ℕ) → source.x + n ≤ target.x → has_copy_hazard source target n ≡ false
