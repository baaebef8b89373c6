-- A texture window that changes nothing.
use Rattle.std.specs.Prelude.{ℕ, ◌<◌, ◌≡◌}
use Rattle.texture_page.specs.Page.{windowed}

-- a window with mask 0 leaves each coordinate unchanged, whatever its offset
abbrev pub OpenWindowLaw : Type 0
OpenWindowLaw = (off u : ℕ) → u < 256 → windowed 0 off u ≡ u
