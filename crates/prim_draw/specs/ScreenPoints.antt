-- Points of the screen, and boxes given by their corners.
use Rattle.std.specs.Int.{int_min, int_max}
use Rattle.px_num.specs.declared.shape.Box2.{Box2}
use Rattle.prim_draw.specs.declared.boxes.ScreenPoint.{ScreenPoint}

-- the smaller column and the smaller row
abbrev pub least : ScreenPoint → ScreenPoint → ScreenPoint
least a b = record { x = int_min a.x b.x; y = int_min a.y b.y }

-- the greater column and the greater row
abbrev pub greatest : ScreenPoint → ScreenPoint → ScreenPoint
greatest a b = record { x = int_max a.x b.x; y = int_max a.y b.y }

abbrev pub box_from : ScreenPoint → ScreenPoint → Box2
box_from first last = record { x1 = first.x; y1 = first.y; x2 = last.x; y2 = last.y }

abbrev pub first_corner : Box2 → ScreenPoint
first_corner b = record { x = b.x1; y = b.y1 }

abbrev pub last_corner : Box2 → ScreenPoint
last_corner b = record { x = b.x2; y = b.y2 }
