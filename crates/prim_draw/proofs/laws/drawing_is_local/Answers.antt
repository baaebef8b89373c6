use Rattle.prim_draw.proofs.LocalLemmas.{drawing_is_local}
use Rattle.prim_draw.proofs.StayLemmas.{drawing_stays}
use Rattle.prim_draw.proofs.laws.drawing_is_local.Goals as goal

pub returns-clause-stays : goal.returns-clause-stays
returns-clause-stays c = drawing_stays

pub returns-clause-local : goal.returns-clause-local
returns-clause-local c = drawing_is_local
