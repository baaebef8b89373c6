use Rattle.std.proofs.Common.{refl}
use Rattle.dev_io.proofs.Writing.{underway_start, underway_on, underway_last}
use Rattle.picture_out.specs.Picture.{picture_of}
use Rattle.picture_out.proofs.picture.write_picture.Goals as goal

pub returns-clause-writes : goal.returns-clause-writes
unfolding picture_of
returns-clause-writes g c =
    let head = underway_on _ _ _ _ _ _ _ _ _ (underway_start _ _ _) refl c.in_ok-write_head.ensures in
    underway_last _ _ _ _ _ _ _ head c.write_pixels.ensures.writes
