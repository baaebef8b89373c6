-- Segments that are walked point by point, with each value in fixed-point steps (psx-spx, "GPU Render Line Commands";
-- the choice of points is our own rule).
use Rattle.std.specs.Prelude.{ℕ, ◌+◌, ◌*◌, ◌/◌, ◌%◌, ◌^◌, ◌≤◌, ◌<◌, ◌≡◌, unsigned_abs}
use Rattle.std.specs.Prelude.{ℤ, pos, ◌+ℤ◌, ◌-ℤ◌, ◌*ℤ◌, ◌≤ℤ◌}
use Rattle.std.specs.Int.Signed.{shr_z}
use Rattle.line_walk.specs.Line.{Ends}
use Rattle.line_walk.specs.declared.slope.Slope.{Slope}
use Rattle.line_walk.specs.declared.tones.Tones.{Tones}

-- a segment, and the index of the next point
pub record Walking : Type 0 where
  pub ends : Ends
  pub at : ℕ

-- the current value of a slope, rounded down
abbrev pub value_of : Slope → ℤ
value_of s = shr_z s.place (2 ^ 21)

-- a slope at step k of n from one value to another: the sum of n steps is their difference in parts, plus at most n
-- parts
pub record IsSlope (from to : ℤ) (n k : ℕ) (s : Slope) : Type 0 where
  pub over : ℕ
  pub little : over ≤ n
  pub step : s.step *ℤ pos n ≡ (to -ℤ from) *ℤ pos (2 ^ 21) +ℤ pos over
  pub place : s.place ≡ from *ℤ pos (2 ^ 21) +ℤ (pos (2 ^ 20) +ℤ pos k *ℤ s.step)

-- the slopes of the channels of a colour at step k of n
pub record AreTones (from to n k : ℕ) (t : Tones) : Type 0 where
  pub red : IsSlope (pos (from % 256)) (pos (to % 256)) n k t.red
  pub green : IsSlope (pos (from / 2 ^ 8 % 256)) (pos (to / 2 ^ 8 % 256)) n k t.green
  pub blue : IsSlope (pos (from / 2 ^ 16 % 256)) (pos (to / 2 ^ 16 % 256)) n k t.blue

-- a slope whose current value is a byte
pub record IsByte (s : Slope) : Type 0 where
  pub low : pos 0 ≤ℤ value_of s
  pub high : value_of s ≤ℤ pos 255
  pub place : unsigned_abs s.place < 2 ^ 60

-- the current values of all channels are bytes
pub record AreBytes (t : Tones) : Type 0 where
  pub red : IsByte t.red
  pub green : IsByte t.green
  pub blue : IsByte t.blue

-- the current colour of the channels
abbrev pub tint_of : Tones → ℕ
tint_of t =
    unsigned_abs (value_of t.red)
    + 2 ^ 8 * unsigned_abs (value_of t.green)
    + 2 ^ 16 * unsigned_abs (value_of t.blue)
