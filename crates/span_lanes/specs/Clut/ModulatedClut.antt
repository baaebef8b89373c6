-- A CLUT of sixteen entries, modulated by one colour.
use Rattle.std.specs.Prelude.{ℕ, ◌≡◌, ◌<◌, ◌&&◌, not, false, pos, List}
use Rattle.std.specs.Prelude.{Bool, Option, None, Some, IfSome}
use Rattle.texture_page.specs.Page.{clut_place}
use Rattle.texel_lanes.specs.declared.texture.Texture.{Texture}
use Rattle.span_lanes.specs.declared.span.Paint.{Paint}
use Rattle.span_lanes.specs.declared.span.Span.{Span}
use Rattle.span_lanes.specs.declared.clut.modulated.ModulatedClut.{ModulatedClut}
use Rattle.texel_lanes.specs.declared.clut.Table.{Table}
use Rattle.texel_lanes.specs.Texture.{at_cell}
use Rattle.span_lanes.specs.Hazard.Guard.{IsHazardFree}
use Rattle.span_lanes.specs.Shade.{modulated_texel, texture_of}
use Rattle.texel_lanes.specs.Table.{IsTable, entry_at}

-- the first n entries of a texture's CLUT in video memory
abbrev pub AreEntriesOf : Texture → (m : List ℕ) → (n : ℕ) → (entry : ℕ → ℕ) → Type 0
AreEntriesOf t m n entry = (i : ℕ) → i < n → entry i ≡ at_cell m (clut_place t.clut i)

-- the first n entries, each modulated by one colour without dither
abbrev pub AreModulatedBy : (raw : Bool) → (color n : ℕ) → (entry modulated : ℕ → ℕ) → Type 0
AreModulatedBy raw color n entry modulated =
    (i : ℕ) → i < n → modulated i ≡ modulated_texel raw color (pos 0) (entry i)

-- the entries of a texture's CLUT, and each modulated by one colour without dither
pub record IsModulatedClutOf (t : Texture) (m : List ℕ) (modulated_clut : ModulatedClut) : Type 0 where
  pub entries : IsTable modulated_clut.entries
  pub modulated : IsTable modulated_clut.modulated
  pub entry : AreEntriesOf t m 16 (entry_at modulated_clut.entries)
  pub front : AreModulatedBy t.raw modulated_clut.color 16 (entry_at modulated_clut.entries)
      (entry_at modulated_clut.modulated)

-- any sixteen entries, each modulated by one colour without dither
pub record IsModulatedClut (modulated_clut : ModulatedClut) : Type 0 where
  pub entries : IsTable modulated_clut.entries
  pub modulated : IsTable modulated_clut.modulated
  pub front : AreModulatedBy modulated_clut.raw modulated_clut.color 16 (entry_at modulated_clut.entries)
      (entry_at modulated_clut.modulated)

-- the entries of a table are those of the texture's CLUT in video memory
abbrev pub AreClutEntries : Texture → List ℕ → Table → Type 0
AreClutEntries t m entries = AreEntriesOf t m 16 (entry_at entries)

-- the cached CLUT, if any, is that of a paint's texture in video memory, modulated by its colour
pub record IsCached (paint : Paint) (m : List ℕ) (last : Option ModulatedClut) : Type 0 where
  pub modulated : IfSome last IsModulatedClut
  pub fresh : IfSome last (λ s. IfSome (texture_of paint) (λ t. AreClutEntries t m s.entries))

-- the CLUT of a texture in video memory, modulated by a colour
pub record IsModulatedClutFor (t : Texture) (m : List ℕ) (shading : ℕ) (s : ModulatedClut) : Type 0 where
  pub modulated : IsModulatedClut s
  pub modulated_clut : IsModulatedClutOf t m s
  pub raw : s.raw ≡ t.raw
  pub color : s.color ≡ shading

-- such a CLUT is cached
abbrev pub HasModulatedClut : Texture → (m : List ℕ) → (shading : ℕ) → Option ModulatedClut → Type 0
HasModulatedClut t m shading None = ⊥
HasModulatedClut t m shading (Some s) = IsModulatedClutFor t m shading s

-- the cached CLUT is modulated by this colour, or raw
abbrev pub IsModulatedBy : Option ModulatedClut → (raw : Bool) → (color : ℕ) → Type 0
IsModulatedBy None raw color = ⊥
IsModulatedBy (Some s) raw color = (s.raw ≡ raw) × (s.color ≡ color)

-- a span whose CLUT can be modulated once for all its cells: of sixteen entries at depth 0, of 256 at depth 1
pub record CanCacheClut (d : ℕ) (span : Span) (t : Texture) : Type 0 where
  pub hazard_free : IsHazardFree span
  pub depth : t.page.depth ≡ d
  pub even : (span.brush.dither && not t.raw) ≡ false
