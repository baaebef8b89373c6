use Rattle.snapshot_words.proofs.States.{state_read}
use Rattle.snapshot_words.proofs.laws.states_are_read.Goals as goal

pub returns : goal.returns
returns c = state_read
