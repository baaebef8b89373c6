-- Small numbers in words (psx-spx, "GPU Render Commands": vertices and offsets).
use Rattle.std.specs.Prelude.{ℕ, ℤ, pos, ◌+◌, ◌%◌, ◌-ℤ◌}

-- the signed value of the low eleven bits, -1024 to 1023
abbrev pub signed_11 : ℕ → ℤ
signed_11 word = pos ((word + 1024) % 2048) -ℤ pos 1024
