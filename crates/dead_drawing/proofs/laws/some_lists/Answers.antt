use Rattle.std.proofs.Common.{refl}
use Rattle.gp0_packets.specs.Packets.{whole_of, rectangle_of, other_of, fill_of, environment_of}
use Rattle.prim_draw.specs.Areas.{area_of, moved_box}
use Rattle.prim_draw.specs.Boxes.{some_box, overlap}
use Rattle.prim_draw.specs.Rectangles.{extent_at, rectangle_box}
use Rattle.gp1_status.specs.Drawing.{drawing_area}
use Rattle.dead_drawing.specs.Control.{controlled}
use Rattle.dead_drawing.specs.Dead.{is_droppable, dead_len, holds_box}
use Rattle.dead_drawing.specs.Slim.{slim_events}
use Rattle.dead_drawing.proofs.laws.some_lists.Goals as goal

pub returns-clause-dropped : goal.returns-clause-dropped
unfolding slim_events dead_len holds_box is_droppable controlled whole_of rectangle_of other_of fill_of environment_of
    area_of moved_box some_box overlap extent_at rectangle_box drawing_area
returns-clause-dropped c = refl

pub returns-clause-kept : goal.returns-clause-kept
unfolding slim_events dead_len holds_box is_droppable controlled whole_of rectangle_of other_of fill_of environment_of
    area_of moved_box some_box overlap extent_at rectangle_box drawing_area
returns-clause-kept c = refl

pub returns-clause-skipped : goal.returns-clause-skipped
unfolding slim_events dead_len holds_box is_droppable controlled whole_of rectangle_of other_of fill_of environment_of
    area_of moved_box some_box overlap extent_at rectangle_box drawing_area
returns-clause-skipped c = refl
