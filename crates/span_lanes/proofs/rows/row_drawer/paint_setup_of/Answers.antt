use Rattle.span_lanes.proofs.rows.row_drawer.paint_setup_of.Goals as goal

pub returns-in-Shaded : goal.returns-in-Shaded
returns-in-Shaded c = rw c.in-Shaded.is (c.shaded_setup.ensures c.args.brush.now)
