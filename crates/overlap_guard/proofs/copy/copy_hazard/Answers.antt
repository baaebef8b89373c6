use Rattle.overlap_guard.proofs.Places.{trails_iff, iff_trans}
use Rattle.overlap_guard.proofs.TestLemmas.{same_bool, copy_iff}
use Rattle.overlap_guard.proofs.copy.copy_hazard.Goals as goal

pub returns-clause-pairs : goal.returns-clause-pairs
returns-clause-pairs c = iff_trans c.trails.ensures (trails_iff c.args.from c.args.to c.args.n)

pub returns-clause-value : goal.returns-clause-value
returns-clause-value c =
    same_bool _ _ (iff_trans c.trails.ensures (trails_iff c.args.from c.args.to c.args.n))
    (copy_iff c.args.from c.args.to c.args.n)
