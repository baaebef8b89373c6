-- When modulation leaves a colour unchanged.
use Rattle.std.specs.Prelude.{ℕ, ◌%◌, ◌^◌, ◌≡◌, pos}
use Rattle.blend_dither.specs.Color.{modulated_of}

-- a texel modulated by the colour 808080h without dither is the texel with bit 15 cleared
abbrev pub NeutralLaw : Type 0
NeutralLaw = (texel : ℕ) → modulated_of texel 128 128 128 (pos 0) ≡ texel % 2 ^ 15
