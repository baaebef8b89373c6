use Rattle.std.proofs.Common.{ℕ, Option, IfSome}
use Rattle.px_num.specs.declared.shape.Box2.{Box2}
use Rattle.span_lanes.specs.Figures.Boxes.{clip_rect_of, IsOnScreen, LiesInBox}
use Rattle.prim_draw.specs.Rectangles.{cells_box, IsExtent, IsPartOf}
use Rattle.prim_draw.specs.declared.rectangles.Extent.{Extent}
use Rattle.prim_draw.proofs.BoxLemmas.{if_both, part_of}
use Rattle.prim_draw.proofs.rectangles.rectangle_box.Goals as goal

part : (e : Extent) (height : ℕ) (found : Option Box2) → IsExtent e
    → IfSome found (IsOnScreen height) → IfSome found (LiesInBox (cells_box e))
    → IfSome found (λ b. IsPartOf e (clip_rect_of b))
part e height found is on lies =
    if_both {P = IsOnScreen height} {Q = LiesInBox (cells_box e)} {R = λ b. IsPartOf e (clip_rect_of b)} found
    (λ b. part_of e height b is) on lies

pub returns-else-extent-eq0-2-clause-part : goal.returns-else-extent-eq0-2-clause-part
returns-else-extent-eq0-2-clause-part c =
    part c.args.extent.now c.args.regs.now.height c.clipped.result c.requires.is c.clipped.ensures.on_screen
    (rw c.cells_box.ensures at c.clipped.ensures.inside)
