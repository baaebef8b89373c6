use Rattle.demo_play.proofs.Words.{words_next, words_all}
use Rattle.demo_play.proofs.demo.play_words.Goals as goal

pub loop-word-preserved : goal.loop-word-preserved
loop-word-preserved g c = λ first done start played.
    words_next first done c.args.words.now c.loop-word.word-index start _ _ c.loop-word-test.true
    (c.play_word.ensures first _ start (c.loop-word.invariant first done start played))

pub returns : goal.returns
returns g c = λ first done start played.
    words_all first done c.args.words.now c.loop-word.word-index start _ _ c.loop-word-test.false
    (c.loop-word.invariant first done start played)
