use Rattle.std.proofs.Common.{◌≡◌, ◌-ℤ◌, SFits, w32, w64, rules, arith}
use Rattle.std.proofs.lemmas.Int.{to_z-of_z, ints}
use Rattle.edge_walk.proofs.slope.falling.Goals as goal

pub returns-then-fall-eq0 : goal.returns-then-fall-eq0
returns-then-fall-eq0 c =
    let p = c.args.p.now in
    let q = c.args.q.now in
    let top : SFits w32 p.y = search rules in
    let bottom : SFits w32 q.y = search rules in
    let left : SFits w32 p.x = search rules in
    let right : SFits w32 q.x = search rules in
    let fall = simp to_z-of_z at c.difference-fall.ensures.value in
    c.level.ensures p q (omega (arith, ints, fall, c.if-fall-eq0.true)) (simp to_z-of_z)

pub returns-else-fall-eq0 : goal.returns-else-fall-eq0
returns-else-fall-eq0 c =
    let p = c.args.p.now in
    let q = c.args.q.now in
    let top : SFits w32 p.y = search rules in
    let bottom : SFits w32 q.y = search rules in
    let fits : SFits w64 c.difference-fall.result = search rules in
    let fall : c.difference-fall.result ≡ (q.y -ℤ p.y) = simp to_z-of_z at c.difference-fall.ensures.value in
    c.steep.ensures p q (simp to_z-of_z (omega (arith, ints, fall, c.requires.falls, c.if-fall-eq0.false)))
