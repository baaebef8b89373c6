use Rattle.std.proofs.Common.{◌≡◌, ◌∙◌, ap, sym, ◌+ℤ◌, ◌-ℤ◌, w32, w64, SFits, rules, arith}
use Rattle.std.proofs.lemmas.Int.{to_z-of_z, ints, clamps}
use Rattle.line_walk.specs.Line.{rise, IsAmid}
use Rattle.line_walk.proofs.RiseLemmas.{sum-amid, along-some}
use Rattle.line_walk.proofs.rise.along.Goals as goal
use Rattle.line_walk.proofs.rise.along.Goals.{After-rise}

module _ (c : After-rise) where
  from_fits : SFits w32 c.args.run.now.from
  from_fits = search rules

  to_fits : SFits w32 c.args.run.now.to
  to_fits = search rules

  grown : c.rise.result ≡ rise (c.args.run.now.to -ℤ c.args.run.now.from) c.args.n c.args.k
  grown =
      let from = from_fits in
      let to = to_fits in
      let from_wide : SFits w64 c.args.run.now.from = omega (arith, ints, from) in
      let to_wide : SFits w64 c.args.run.now.to = omega (arith, ints, to) in
      let difference : SFits w64 (c.args.run.now.to -ℤ c.args.run.now.from) = omega (arith, ints, c.requires.near) in
      simp to_z-of_z at c.rise.ensures

  amid : IsAmid c.args.run.now.from c.args.run.now.to (c.args.run.now.from +ℤ c.rise.result)
  amid = rw grown (sum-amid c.args.run.now.from c.args.run.now.to c.args.n c.args.k (omega arith) c.requires.k)

  sum_fits : SFits w32 (c.args.run.now.from +ℤ c.rise.result)
  sum_fits = omega (arith, ints, clamps, amid.0, amid.1, from_fits, to_fits)

  sum_wide : SFits w64 (c.args.run.now.from +ℤ c.rise.result)
  sum_wide = omega (arith, ints, sum_fits)

pub overflow_add-result : goal.overflow_add-result
overflow_add-result c = omega (
  arith,
  ints,
  sum_fits (goal.at.overflow_add-result c).After-rise,
  from_fits
      (goal.at.overflow_add-result c).After-rise,
)

pub overflow_cast-result-2 : goal.overflow_cast-result-2
overflow_cast-result-2 c = omega (
  arith,
  ints,
  sum_fits (goal.at.overflow_cast-result-2 c).After-rise,
  from_fits
      (goal.at.overflow_cast-result-2 c).After-rise,
)

pub returns-clause-value : goal.returns-clause-value
returns-clause-value c =
    let k = (goal.at.returns-clause-value c).After-rise in
    let run = c.args.run.now in
    let sum : SFits w32 (run.from +ℤ c.rise.result) = sum_fits k in
    let wide : SFits w64 (run.from +ℤ c.rise.result) = sum_wide k in
    let from : SFits w32 run.from = from_fits k in
    let from_wide : SFits w64 run.from = omega (arith, ints, from) in
    let fits : SFits w64 c.rise.result = search rules in
    simp to_z-of_z
    (ap (λ r. run.from +ℤ r) (grown k) ∙ sym (along-some run.from run.to c.args.n c.args.k c.if-n-eq0.false))

pub returns-clause-amid : goal.returns-clause-amid
returns-clause-amid c =
    let k = (goal.at.returns-clause-amid c).After-rise in
    let run = c.args.run.now in
    let sum : SFits w32 (run.from +ℤ c.rise.result) = sum_fits k in
    let wide : SFits w64 (run.from +ℤ c.rise.result) = sum_wide k in
    let from : SFits w32 run.from = from_fits k in
    let from_wide : SFits w64 run.from = omega (arith, ints, from) in
    let fits : SFits w64 c.rise.result = search rules in
    simp to_z-of_z (amid k)
