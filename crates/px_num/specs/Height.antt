-- The number of rows of video memory (psx-spx, "GPU Video Memory (VRAM)", and "2 MB VRAM" for the arcade boards).
use Rattle.std.specs.Prelude.{◌≡◌, ◌⊎◌, ℕ, Bool, if◌then◌else◌}

-- 512 rows on the console, and 1024 in the tall profile
abbrev pub short_height : ℕ
short_height = 512

abbrev pub tall_height : ℕ
tall_height = 1024

abbrev pub IsHeight : ℕ → Type 0
IsHeight height = (height ≡ short_height) ⊎ (height ≡ tall_height)

abbrev pub height_of_profile : (tall : Bool) → ℕ
height_of_profile tall = if tall then tall_height else short_height
