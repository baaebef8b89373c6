-- The memory that video memory occupies.
use Rattle.std.specs.Prelude.{◌≡◌, ◌≤◌, ◌⊎◌, ◌*◌, ℕ}
use Rattle.px_num.specs.Height.{short_height, tall_height}

-- 512 or 1024 rows, with capacity for 1024
pub record KeepsRoom (cells room : ℕ) : Type 0 where
  pub rows : (cells ≡ 1024 * short_height) ⊎ (cells ≡ 1024 * tall_height)
  pub fits : 1024 * tall_height ≤ room
