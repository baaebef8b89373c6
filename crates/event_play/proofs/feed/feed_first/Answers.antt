use Rattle.std.proofs.Common.{◌≡◌, ℕ, take, length, subst, map, arith}
use Rattle.std.proofs.lemmas.List.{length-take-le}
use Rattle.event_play.specs.PlayedWords.{IsTold, after_words, number_after}
use Rattle.event_play.specs.Streams.{without_sink}
use Rattle.event_play.proofs.AtOnce.{words_told}
use Rattle.event_play.proofs.feed.feed_first.Goals as goal

pub returns-clause-told : goal.returns-clause-told
returns-clause-told g c = λ t first told.
    let words = take c.take_first.result c.args.words.now in
    let long : length words ≡ c.take_first.result =
    length-take-le c.take_first.result c.args.words.now (let le = c.take_first.ensures.within in omega (arith, le)) in
    let Q : ℕ → Type 0 = λ count. IsTold (after_words t words) first
    (without_sink (map g.T.Listener.heard c.take_first.new.taps.items) c.take_first.new.steps) c.take_first.new.self
    (number_after c.args.played count) in
    subst Q long
    (words_told t first _ _ c.args.gpu.now c.take_first.new.self c.args.played words
    (omega (arith, c.ranges.played.fits)) told
    c.take_first.ensures.takes)
