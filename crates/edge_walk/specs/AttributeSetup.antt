-- What the attributes of a triangle share (our own rule).
use Rattle.std.specs.Prelude.{◌≡◌}
use Rattle.edge_walk.specs.declared.attribute_setup.AttributeSetup.{AttributeSetup}
use Rattle.edge_walk.specs.Held.{divisor_for}
use Rattle.edge_walk.specs.Oriented.{corners_of}
use Rattle.edge_walk.specs.Triangle.{Corners, oriented}

-- the oriented triangle and its divisor
pub record IsAttributeSetup (tri : Corners) (setup : AttributeSetup) : Type 0 where
  pub oriented_triangle : corners_of setup.t ≡ oriented tri
  pub divisor : setup.divisor ≡ divisor_for tri
