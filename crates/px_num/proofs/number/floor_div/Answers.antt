use Rattle.std.proofs.Common.{w64, SFits, rules}
use Rattle.std.proofs.lemmas.Int.{to_z-of_z}
use Rattle.px_num.proofs.FloorLemmas.{floor_is}
use Rattle.px_num.proofs.number.floor_div.Goals as goal

pub returns-clause-floor : goal.returns-clause-floor
returns-clause-floor c =
    let a_fits = c.ranges.a in
    let b_fits = c.ranges.b in
    let fits : SFits w64 c.div_euclid.result = search rules in
    let e = simp to_z-of_z at c.div_euclid.ensures in
    simp to_z-of_z (rw e (floor_is c.args.a c.args.b c.requires))
