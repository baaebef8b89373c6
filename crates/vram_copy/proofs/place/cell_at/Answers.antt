use Rattle.vram_copy.proofs.WordLemmas.{cell_is}
use Rattle.vram_copy.proofs.place.cell_at.Goals as goal

pub returns-clause-value : goal.returns-clause-value
returns-clause-value c = λ i is. cell_is c.args.height c.args.job.now c.args.place i _ _ is c.wrap_x.ensures.value
    c.wrap_at.ensures.value
