use Rattle.list_dma.specs.Walk.{loop_of, walk_of}
use Rattle.list_dma.proofs.RepeatLemmas.{first_repeat}
use Rattle.list_dma.proofs.laws.walks_repeat.Goals as goal

pub returns : goal.returns
unfolding loop_of
returns c = λ ram start. first_repeat (walk_of ram start)
