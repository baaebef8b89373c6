use Rattle.std.proofs.Common.{w32, SFits, rules}
use Rattle.std.proofs.lemmas.Int.{to_z-of_z}
use Rattle.line_walk.proofs.segment.Segment.point.Goals as goal

pub returns-clause-between : goal.returns-clause-between
returns-clause-between c =
    let s = c.self.inside in
    let ax : SFits w32 s.a.x = search rules in
    let ay : SFits w32 s.a.y = search rules in
    let bx : SFits w32 s.b.x = search rules in
    let by_ : SFits w32 s.b.y = search rules in
    let x : SFits w32 c.along.result = search rules in
    let y : SFits w32 c.along-2.result = search rules in
    rw (← c.self.view_is)
    (simp to_z-of_z
    (record { across = simp to_z-of_z at c.along.ensures.amid; down = simp to_z-of_z at c.along-2.ensures.amid }))
