use Rattle.std.proofs.Common.{SFits, w32, w64, rules}
use Rattle.std.proofs.lemmas.Int.{to_z-of_z}
use Rattle.edge_walk.proofs.SmallLemmas.{small_box}
use Rattle.edge_walk.proofs.edge.is_small_box.Goals as goal

pub returns-then-difference-le1023 : goal.returns-then-difference-le1023
returns-then-difference-le1023 c =
    let x1 : SFits w32 c.args.own.now.x1 = search rules in
    let y1 : SFits w32 c.args.own.now.y1 = search rules in
    let x2 : SFits w32 c.args.own.now.x2 = search rules in
    let y2 : SFits w32 c.args.own.now.y2 = search rules in
    let wide : SFits w64 c.difference.result = search rules in
    let high : SFits w64 c.difference-then-difference-le1023.result = search rules in
    let across = simp to_z-of_z at c.difference.ensures.value in
    let down = simp to_z-of_z at c.difference-then-difference-le1023.ensures.value in
    let test = simp to_z-of_z at c.if-difference-le1023.true in
    simp to_z-of_z (small_box c.args.own.now _ _ across down test)
