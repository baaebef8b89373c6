use Rattle.std.proofs.Common.{refl}
use Rattle.gpu_capture.proofs.Words.{words_none}
use Rattle.gpu_capture.proofs.block.WordBlock.take.Goals as goal

pub returns-then-expected-eq0-clause-takes : goal.returns-then-expected-eq0-clause-takes
returns-then-expected-eq0-clause-takes g c = rw c.clear.ensures (words_none _ _ _ refl (λ rest. refl))
