use Rattle.overlap_guard.proofs.Places.{strip_places, iff_trans}
use Rattle.overlap_guard.proofs.texture.strip_hazard.Goals as goal

pub returns : goal.returns
returns c = iff_trans c.strip_meets.ensures
    (strip_places c.args.strip c.args.to c.args.n c.requires.some c.requires.target)
