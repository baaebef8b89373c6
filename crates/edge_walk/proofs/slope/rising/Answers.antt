use Rattle.std.proofs.Common.{◌≡◌, ◌-ℤ◌, SFits, w32, w64, rules, arith}
use Rattle.std.proofs.lemmas.Int.{to_z-of_z, ints}
use Rattle.edge_walk.proofs.slope.rising.Goals as goal

pub returns : goal.returns
returns c =
    let p = c.args.p.now in
    let q = c.args.q.now in
    let bottom : SFits w32 p.y = search rules in
    let top : SFits w32 q.y = search rules in
    let fits : SFits w64 c.difference.result = search rules in
    let fall : c.difference.result ≡ (p.y -ℤ q.y) = simp to_z-of_z at c.difference.ensures.value in
    c.steep.ensures p q (simp to_z-of_z (omega (arith, ints, fall, c.requires.rises)))
