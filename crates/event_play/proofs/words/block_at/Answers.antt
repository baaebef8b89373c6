use Rattle.std.proofs.Common.{◌/◌, ◌^◌, ap}
use Rattle.event_play.proofs.Nodes.{node_block}
use Rattle.event_play.proofs.words.block_at.Goals as goal

pub returns-clause-words : goal.returns-clause-words
returns-clause-words c = node_block _ _ _ (ap (λ word. word / 2 ^ 24) c.get.ensures.value)
