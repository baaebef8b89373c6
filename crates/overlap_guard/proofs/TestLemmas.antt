-- The computable tests agree with the propositions.
use Rattle.std.proofs.Common.{ℕ, ◌+◌, ◌<◌, ◌≡◌, ◌↔◌, ◌⊎◌, inl, inr, List, length, Option, None, Some, Bool, true, false}
use Rattle.std.proofs.Common.{IsTrue, ◌&&◌, ◌||◌, eqb, refl, sym, ap, ◌∙◌, zero-add, arith}
use Rattle.std.specs.Option.{MatchOption}
use Rattle.std.specs.List.{list_any, range_with_len}
use Rattle.std.proofs.lemmas.List.Folds.{Any-from_list_any, list_any_at}
use Rattle.std.proofs.lemmas.List.FromFn.{get_or-range_with_len, length-range_with_len}
use Rattle.std.proofs.lemmas.Bool.Decides.{nat_tests}
use Rattle.px_num.specs.declared.shape.Cell.{Cell}
use Rattle.px_num.specs.declared.shape.Strip.{Strip}
use Rattle.overlap_guard.specs.Hazard.{WrittenBefore, cell_right, cell_at, strip_cell, HasCopyHazard, HasTexelHazard}
use Rattle.overlap_guard.specs.Hazard.{HasStripHazard, HasTextureHazard, some_below, is_written_before, has_copy_hazard}
use Rattle.overlap_guard.specs.Hazard.{has_texel_hazard, has_strip_hazard, has_clut_hazard, has_texture_hazard}

some_iff : (P : ℕ → Type 0) (n : ℕ) (p : ℕ → Bool) → ((k : ℕ) → IsTrue (p k) ↔ P k) → IsTrue (some_below n p)
    ↔ ((k : ℕ) × (k < n) × P k)
some_iff P n p each = (to, from)
  where
    to : IsTrue (list_any p (range_with_len 0 n)) → (k : ℕ) × (k < n) × P k
    to h =
        let a = Any-from_list_any p (range_with_len 0 n) h in
        let lt : a.0 < n = omega (arith, length-range_with_len 0 n, a.2) in
        let e : a.1 ≡ 0 + a.0 = sym a.3 ∙ get_or-range_with_len 0 n a.0 a.1 lt in
        (a.1, omega arith, (each a.1).0 a.4)

    from : ((k : ℕ) × (k < n) × P k) → IsTrue (list_any p (range_with_len 0 n))
    from h =
        let e = length-range_with_len 0 n in
        list_any_at p (range_with_len 0 n) h.0 0 (omega (arith, h.1))
        (ap p (get_or-range_with_len 0 n h.0 0 h.1 ∙ zero-add h.0) ∙ (each h.0).1 h.2)

-- two tests of one proposition are equal
pub same_bool : {P : Type 0} (a b : Bool) → IsTrue a ↔ P → IsTrue b ↔ P → a ≡ b
same_bool true true f g = refl
same_bool true false f g = sym (g.1 (f.0 refl))
same_bool false true f g = f.1 (g.0 refl)
same_bool false false f g = refl

-- a test of a false proposition is false
pub false_of : {P : Type 0} (b : Bool) → IsTrue b ↔ P → (P → ⊥) → b ≡ false
false_of true f none = absurd (none (f.0 refl))
false_of false f none = refl

both_true : (a b : Bool) → IsTrue (a && b) ↔ (IsTrue a × IsTrue b)
both_true true b = (λ h. (refl, h), λ h. h.1)
both_true false b = (λ h. absurd cc, λ h. absurd cc)

one_true : {P Q : Type 0} (a b : Bool) → IsTrue a ↔ P → IsTrue b ↔ Q → IsTrue (a || b) ↔ (P ⊎ Q)
one_true true b f g = (λ h. inl (f.0 refl), λ h. refl)
one_true false b f g = (λ h. inr (g.0 h), λ h. elim h [ inl p ↦ absurd (cc (f.1 p)) | inr q ↦ g.1 q ])

eq_true : (a b : ℕ) → IsTrue (eqb a b) ↔ (a ≡ b)
eq_true a b = (λ h. grind (arith, nat_tests), λ h. grind (arith, nat_tests))

before_iff : (target : Cell) (j : ℕ) (cell : Cell) → IsTrue (is_written_before target j cell)
    ↔ WrittenBefore target j cell
before_iff target j cell = some_iff (λ i. (cell.x ≡ target.x + i) × (cell.y ≡ target.y)) j
    (λ i. eqb cell.x (target.x + i) && eqb cell.y target.y) written
  where
    written : (i : ℕ) → IsTrue (eqb cell.x (target.x + i) && eqb cell.y target.y)
        ↔ ((cell.x ≡ target.x + i) × (cell.y ≡ target.y))
    written i =
        let both = both_true (eqb cell.x (target.x + i)) (eqb cell.y target.y) in (
          λ h. ((eq_true _ _).0 (both.0 h).0, (eq_true _ _).0 (both.0 h).1),
          λ h. both.1
              ((eq_true _ _).1 h.0, (eq_true _ _).1 h.1),
        )

pub copy_iff : (source target : Cell) (n : ℕ) → IsTrue (has_copy_hazard source target n) ↔ HasCopyHazard source target n
unfolding has_copy_hazard
copy_iff source target n =
    some_iff (λ j. WrittenBefore target j (cell_right source j)) n
    (λ j. is_written_before target j (cell_right source j))
    (λ j. before_iff target j (cell_right source j))

pub texel_iff : (texels : List Cell) (target : Cell) → IsTrue (has_texel_hazard texels target)
    ↔ HasTexelHazard texels target
unfolding has_texel_hazard
texel_iff texels target =
    some_iff (λ j. WrittenBefore target j (cell_at texels j)) (length texels)
    (λ j. is_written_before target j (cell_at texels j))
    (λ j. before_iff target j (cell_at texels j))

strip_iff : (strip : Strip) (target : Cell) (n : ℕ) → IsTrue (has_strip_hazard strip target n)
    ↔ HasStripHazard strip target n
unfolding has_strip_hazard
strip_iff strip target n =
    some_iff (λ k. WrittenBefore target n (strip_cell strip k)) strip.n
    (λ k. is_written_before target n (strip_cell strip k))
    (λ k. before_iff target n (strip_cell strip k))

clut_iff : (clut : Option Strip) (target : Cell) (n : ℕ) → IsTrue (has_clut_hazard clut target n)
    ↔ MatchOption clut ⊥ (λ strip. HasStripHazard strip target n)
clut_iff None target n = (λ h. absurd cc, λ h. absurd h)
clut_iff (Some strip) target n = strip_iff strip target n

pub texture_iff : (texels : List Cell) (clut : Option Strip) (target : Cell) (n : ℕ)
    → IsTrue (has_texture_hazard texels clut target n) ↔ HasTextureHazard texels clut target n
texture_iff texels clut target n = one_true (has_texel_hazard texels target) (has_clut_hazard clut target n)
    (texel_iff texels target) (clut_iff clut target n)
