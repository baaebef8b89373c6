use Rattle.demo_play.proofs.Words.{word_on}
use Rattle.demo_play.proofs.demo.play_word.Goals as goal

pub returns : goal.returns
returns g c = λ first done start played.
    word_on first done c.args.word start _ _ _ _ c.event.result played c.event.ensures.stepped c.event.ensures.played
    c.event.ensures.fault
