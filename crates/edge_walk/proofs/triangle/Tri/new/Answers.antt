use Rattle.std.proofs.Common.{◌∙◌, IsTrue, false, refl, ap, arith, pos, int_lt, w64, SFits, rules, unsigned_abs}
use Rattle.std.proofs.lemmas.Int.{to_z-of_z, ints}
use Rattle.edge_walk.proofs.Decided.{is_drawn-yes, is_drawn-no}
use Rattle.edge_walk.proofs.AreaLemmas.{area_small}
use Rattle.edge_walk.proofs.triangle.Tri.new.Goals as goal

pub overflow_cast-result : goal.overflow_cast-result
overflow_cast-result c =
    let fits : SFits w64 c.doubled_area-area.result = search rules in
    let small = c.if-not-is_small.ensures.0 refl in
    let bound = area_small c.args.a c.args.b c.args.c small.one small.three in
    omega (arith, ints, simp to_z-of_z at c.unsigned_abs.ensures.value, c.doubled_area-area.ensures, bound)

pub invariant_of-result : goal.invariant_of-result
invariant_of-result c =
    let fits : SFits w64 c.doubled_area-area.result = search rules in
    let is = c.doubled_area-area.ensures in record {
      drawn = record { small = c.if-not-is_small.ensures.0 refl; area = omega (arith, ints, is) };
      turned_is = simp to_z-of_z (ap (λ area. int_lt area (pos 0)) is);
      area_is = simp to_z-of_z at c.unsigned_abs.ensures.value ∙ ap unsigned_abs is;
    }

pub returns-clause-value : goal.returns-clause-value
returns-clause-value c =
    let is = c.doubled_area-area.ensures in
    (record { small = c.if-not-is_small.ensures.0 refl; area = omega (arith, ints, is) }, refl)

pub returns-clause-drawn : goal.returns-clause-drawn
returns-clause-drawn c =
    let is = c.doubled_area-area.ensures in
    is_drawn-yes _ (record { small = c.if-not-is_small.ensures.0 refl; area = omega (arith, ints, is) })

pub returns-then-not-is_small-clause-drawn : goal.returns-then-not-is_small-clause-drawn
returns-then-not-is_small-clause-drawn c = is_drawn-no _
    (λ h. let e : IsTrue false = c.if-not-is_small.ensures.1 h.small in absurd cc)

pub returns-then-area-eq0-clause-drawn : goal.returns-then-area-eq0-clause-drawn
returns-then-area-eq0-clause-drawn c = let is = c.doubled_area-area.ensures in
    is_drawn-no _ (λ h. h.area (omega (arith, ints, is)))
