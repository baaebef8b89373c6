use Rattle.event_play.proofs.Turns.{turns_whole}
use Rattle.event_play.proofs.laws.turns_are_whole.Goals as goal

pub returns : goal.returns
returns c = λ s started ended number other madr bcr chcr events. turns_whole s started ended number other madr bcr chcr
    events
