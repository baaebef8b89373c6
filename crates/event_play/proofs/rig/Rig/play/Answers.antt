use Rattle.event_play.specs.Replay.{from_state}
use Rattle.event_play.proofs.Awaiting.{after_start}
use Rattle.event_play.proofs.rig.Rig.play.Goals as goal

pub returns-clause-ends : goal.returns-clause-ends
returns-clause-ends g c = λ s e.
    rw (← after_start (from_state s c.args.self.now.played) _ c.new-reader.ensures.start)
    (c.play_from.ensures.ends s e)
