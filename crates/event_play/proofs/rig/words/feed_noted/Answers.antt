use Rattle.std.proofs.Common.{◌≡◌, ℕ, ◌+◌, take, length, ap, ◌∙◌, subst, map, arith}
use Rattle.std.proofs.lemmas.List.{length-take-le}
use Rattle.gpu_core.specs.Feeds.{but_pixels, feed_notes}
use Rattle.event_play.specs.PlayedWords.{IsTold, after_words, number_after}
use Rattle.event_play.specs.Streams.{without_sink}
use Rattle.event_play.proofs.AtOnce.{words_told}
use Rattle.event_play.proofs.Listed.{notes_fed}
use Rattle.event_play.proofs.rig.words.feed_noted.Goals as goal

pub returns-clause-told : goal.returns-clause-told
returns-clause-told g c = λ t first told.
    let count = c.take_noted.result.count in
    let words = take count c.args.words.now in
    let long : length words ≡ count =
    length-take-le count c.args.words.now (let le = c.take_noted.ensures.within in omega (arith, le)) in
    let Q : ℕ → Type 0 = λ count. IsTold (after_words t words) first
    (without_sink (map g.T.Listener.heard c.take_noted.new.taps.items) c.take_noted.new.steps) c.take_noted.new.self
    (number_after c.args.played count) in
    subst Q long
    (words_told t first _ _ c.args.gpu.now c.take_noted.new.self c.args.played words
    (omega (arith, c.ranges.played.fits)) told
    c.take_noted.ensures.takes)

pub returns-clause-gives : goal.returns-clause-gives
returns-clause-gives g c = λ t first told.
    let words = take c.take_noted.result.count c.args.words.now in
    ap but_pixels (notes_fed t words ∙ ap (λ n. feed_notes t.state.gpu (n + 1) words) told.number)
    ∙ c.take_noted.ensures.gives t.state.gpu told.state
