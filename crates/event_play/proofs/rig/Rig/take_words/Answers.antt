use Rattle.std.proofs.Common.{map}
use Rattle.event_play.proofs.Opened.{opened}
use Rattle.event_play.proofs.OwnWords.{words_tell}
use Rattle.event_play.proofs.rig.Rig.take_words.Goals as goal

pub returns : goal.returns
returns g c =
    let was = opened c.self.inside in
    let after = c.feed_events in
    rw (← c.self.view_is, c.saturating_add-self-inside.ensures) (words_tell was after.new.gpu _ c.args.words.now
    (map g.T.Listener.heard c.args.taps.now.items) (map g.T.Listener.heard after.new.taps.items)
    c.args.steps.now after.new.steps after.ensures)
