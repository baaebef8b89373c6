-- Texels drawn through a modulated CLUT.
use Rattle.std.proofs.Common.{◌≡◌, ◌≤◌, ◌<◌, ℕ, List, ◌+◌, ◌-◌, ◌*◌, sym, subst, ◌∙◌, arith, Option, None, Some}
use Rattle.std.proofs.Common.{inl, inr}
use Rattle.std.proofs.lemmas.Bool.{cases_lt}
use Rattle.std.specs.Prelude.{IfSome}
use Rattle.texture_page.specs.Page.{clut_place}
use Rattle.vram_store.specs.Chunk.{AgreesApart}
use Rattle.texel_lanes.specs.declared.texture.Texture.{Texture}
use Rattle.span_lanes.specs.declared.clut.modulated.ModulatedClut.{ModulatedClut}
use Rattle.overlap_guard.specs.Hazard.{HasStripHazard}
use Rattle.texel_lanes.specs.Texture.{at_cell}
use Rattle.span_lanes.specs.Hazard.Guard.{clut_strip, clut_of, target, HasHazard}
use Rattle.span_lanes.specs.Shade.{texture_of}
use Rattle.span_lanes.specs.declared.span.Span.{Span}
use Rattle.std.specs.Option.{MatchOption}
use Rattle.span_lanes.specs.Clut.ModulatedClut.{IsModulatedClut, AreClutEntries, IsModulatedClutOf, IsModulatedClutFor}
use Rattle.span_lanes.specs.Clut.ModulatedClut.{HasModulatedClut}
use Rattle.span_lanes.specs.Clut.ModulatedClut.{AreEntriesOf, IsModulatedBy}
use Rattle.span_lanes.specs.Clut.ModulatedClut256.{IsModulatedClut256Of}
use Rattle.span_lanes.proofs.BlindLemmas.{same_cell}

-- a chunk of a span without a hazard has no cell of the CLUT
pub clut_missed : (span : Span) (t : Texture) (first k n : ℕ) → texture_of span.paint ≡ Some t
    → clut_of t ≡ Some (clut_strip t.clut n)
    → (HasHazard span first k → ⊥) → HasStripHazard (clut_strip t.clut n) (target span.x span.y first) k → ⊥
clut_missed span t first k n of_paint is none hazard =
    let strip : MatchOption (clut_of t) ⊥ (λ strip. HasStripHazard strip (target span.x span.y first) k)
    = rw is hazard in
    none (rw of_paint (inr strip))

-- a chunk that has no cell of the CLUT does not change its entries
pub entries_kept : (t : Texture) (x y k n : ℕ) (m now : List ℕ) (entry : ℕ → ℕ)
    → AgreesApart (1024 * y + x) k m now → x + k ≤ 1024
    → (HasStripHazard (clut_strip t.clut n) (record { x = x; y = y }) k → ⊥)
    → AreEntriesOf t m n entry → AreEntriesOf t now n entry
entries_kept t x y k n m now entry agree room none is i lt = is i lt ∙ sym cell
  where
    cell : at_cell now (clut_place t.clut i) ≡ at_cell m (clut_place t.clut i)
    cell = same_cell m now x y k (clut_place t.clut i).x (clut_place t.clut i).y agree (omega arith) room
        (λ j less e f. none (i, lt, (j, less, (e, f))))

pub swatches_kept : (t : Texture) (x y k : ℕ) (m now : List ℕ) (modulated_clut : ModulatedClut)
    → AgreesApart (1024 * y + x) k m now → x + k ≤ 1024
    → (HasStripHazard (clut_strip t.clut 16) (record { x = x; y = y }) k → ⊥)
    → IsModulatedClutOf t m modulated_clut → IsModulatedClutOf t now modulated_clut
swatches_kept t x y k m now modulated_clut agree room none is = record {
  entries = is.entries;
  modulated = is.modulated;
  entry = entries_kept t x y k 16 m now _ agree room none is.entry;
  front = is.front;
}

pub swatches256_kept : (t : Texture) (x y k color : ℕ) (m now words : List ℕ)
    → AgreesApart (1024 * y + x) k m now → x + k ≤ 1024
    → (HasStripHazard (clut_strip t.clut 256) (record { x = x; y = y }) k → ⊥)
    → IsModulatedClut256Of t m color words → IsModulatedClut256Of t now color words
swatches256_kept t x y k color m now words agree room none is = record {
  long = is.long;
  entry = entries_kept t x y k 256 m now _ agree room none is.entry;
  front = is.front;
}

pub clut_is : (t : Texture) (m : List ℕ) (color : ℕ) (s : ModulatedClut) → IsModulatedClut s
    → AreClutEntries t m s.entries
    → s.raw ≡ t.raw → s.color ≡ color → IsModulatedClutFor t m color s
clut_is t m color s modulated entries raw color_is = record {
  modulated = modulated;
  modulated_clut = record {
    entries = modulated.entries;
    modulated = modulated.modulated;
    entry = entries;
    front = λ i lt. rw raw at (modulated.front i lt);
  };
  raw = raw;
  color = color_is;
}

pub clut_kept : (t : Texture) (m : List ℕ) (color : ℕ) (last : Option ModulatedClut) → IfSome last IsModulatedClut
    → IfSome last (λ s. AreClutEntries t m s.entries) → IsModulatedBy last t.raw color → HasModulatedClut t m color last
clut_kept t m color None modulated entries under = absurd under
clut_kept t m color (Some s) modulated entries under = clut_is t m color s modulated entries under.0 under.1

-- what holds for the entries before a piece of sixteen, and for the piece, holds for all of them
pub piece_more : (P : ℕ → Type 0) (piece : ℕ) → ((i : ℕ) → i < 16 * piece → P i)
    → ((i : ℕ) → i < 16 → P (16 * piece + i)) → (i : ℕ) → i < 16 * (piece + 1) → P i
piece_more P piece before here i lt = elim (cases_lt i (16 * piece)) [
  | inl below ↦ before i below
  | inr above ↦
      let place : 16 * piece + (i - 16 * piece) ≡ i = omega arith in
      subst P place (here (i - 16 * piece) (omega arith))
]
