use Rattle.vram_copy.proofs.CutLemmas.{copies_small, fills_small}
use Rattle.vram_copy.proofs.laws.costs_are_small.Goals as goal

pub returns-clause-copies : goal.returns-clause-copies
returns-clause-copies c = copies_small

pub returns-clause-fills : goal.returns-clause-fills
returns-clause-fills c = fills_small
