-- Positions of the pixels of a rectangle.
use Rattle.std.specs.Prelude.{◌≡◌, ℕ, ◌+◌, ◌*◌, ◌<◌}
use Rattle.vram_copy.specs.declared.place.Place.{Place}

-- the position of pixel number i, if each row has `width` pixels
pub record IsPlace (width : ℕ) (place : Place) (i : ℕ) : Type 0 where
  pub number : i ≡ place.row * width + place.column
  pub column : place.column < width
