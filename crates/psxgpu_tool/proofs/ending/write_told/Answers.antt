use Rattle.std.proofs.Common.{refl}
use Rattle.dev_io.proofs.Writing.{underway_start, underway_on, underway_last}
use Rattle.psxgpu_tool.proofs.ending.write_told.Goals as goal

pub returns : goal.returns
returns g c =
    let line = underway_on _ _ _ _ _ _ _ _ _ (underway_start _ _ _) refl c.in_ok-write_line.ensures in
    rw (c.status.ensures.exit) at (underway_last _ _ _ _ _ _ _ line c.write_last_items.ensures)
