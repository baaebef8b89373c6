use Rattle.overlap_guard.proofs.TestLemmas.{same_bool, texture_iff}
use Rattle.overlap_guard.proofs.texture.texture_hazard.Goals as goal

pub returns-clause-value : goal.returns-clause-value
returns-clause-value c = same_bool _ _ c.reads_written.ensures
    (texture_iff c.args.texels.now c.args.clut c.args.to c.args.n)
