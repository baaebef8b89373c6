-- A CLUT of 256 entries, modulated by one colour: a word for each entry.
use Rattle.std.specs.Prelude.{ℕ, ◌≡◌, ◌/◌, ◌%◌, ◌^◌, List, length, slice_index}
use Rattle.texel_lanes.specs.declared.texture.Texture.{Texture}
use Rattle.span_lanes.specs.Clut.ModulatedClut.{AreEntriesOf, AreModulatedBy}

-- entry i, in the low half of its word
abbrev pub entry_in : List ℕ → ℕ → ℕ
entry_in words i = slice_index words i % 2 ^ 16

-- the same modulated, in the high half
abbrev pub modulated_in : List ℕ → ℕ → ℕ
modulated_in words i = slice_index words i / 2 ^ 16

-- the entries of a texture's CLUT, and each modulated by one colour without dither
pub record IsModulatedClut256Of (t : Texture) (m : List ℕ) (color : ℕ) (words : List ℕ) : Type 0 where
  pub long : length words ≡ 256
  pub entry : AreEntriesOf t m 256 (entry_in words)
  pub front : AreModulatedBy t.raw color 256 (entry_in words) (modulated_in words)
