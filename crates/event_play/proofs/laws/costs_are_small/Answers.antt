use Rattle.event_play.proofs.BoxCosts.{costs_small}
use Rattle.event_play.proofs.laws.costs_are_small.Goals as goal

pub returns : goal.returns
returns c = costs_small
