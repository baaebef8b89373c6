use Rattle.std.proofs.Common.{None, Some, ◌<◌, ◌^◌, ℕ, Option, pos, IsTrue, ℤ}
use Rattle.std.specs.Prelude.{IfSome}
use Rattle.edge_walk.specs.Attribute.{HasColor}
use Rattle.edge_walk.specs.Triangle.{Corners, is_inside}
use Rattle.span_lanes.specs.SpanDrawer.{IsShadingOf}
use Rattle.span_lanes.specs.declared.attributes.shading.Shading.TheVariants.{OneColor}
use Rattle.span_lanes.proofs.ColorLemmas.{one_in}
use Rattle.span_lanes.proofs.attributes.shading.one_color.Goals as goal

by_color : (tri : Corners) (found : Option ℕ) → IfSome found (λ color. color < 2 ^ 24)
    → IfSome found (λ color. (x y : ℤ) → IsTrue (is_inside tri x y) → HasColor tri x y color)
    → IfSome found (λ color. IsShadingOf tri (OneColor color))
by_color tri None low value = tt
by_color tri (Some color) low value = λ x y inside. one_in tri x y color low (value (pos x) (pos y) inside)

pub returns : goal.returns
returns c = by_color c.args.tri.now _ c.one_color.ensures.low c.one_color.ensures.value
