use Rattle.std.proofs.Common.{w32, SFits, rules, refl}
use Rattle.std.proofs.lemmas.Int.{to_z-of_z}
use Rattle.edge_walk.specs.Extent.{bounding_box}
use Rattle.edge_walk.proofs.extent.bounding_box.Goals as goal

pub returns : goal.returns
unfolding bounding_box
returns c =
    let ax : SFits w32 c.args.a.now.x = search rules in
    let ay : SFits w32 c.args.a.now.y = search rules in
    let bx : SFits w32 c.args.b.now.x = search rules in
    let by_ : SFits w32 c.args.b.now.y = search rules in
    let cx : SFits w32 c.args.c.now.x = search rules in
    let cy : SFits w32 c.args.c.now.y = search rules in
    let left : SFits w32 c.least_of.result = search rules in
    let top : SFits w32 c.least_of-2.result = search rules in
    let right : SFits w32 c.most_of.result = search rules in
    let bottom : SFits w32 c.most_of-2.result = search rules in
    let x1 = simp to_z-of_z at c.least_of.ensures in
    let y1 = simp to_z-of_z at c.least_of-2.ensures in
    let x2 = simp to_z-of_z at c.most_of.ensures in
    let y2 = simp to_z-of_z at c.most_of-2.ensures in
    simp to_z-of_z (rw (x1, y1, x2, y2) refl)
