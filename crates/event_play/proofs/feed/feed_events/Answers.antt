use Rattle.std.proofs.Common.{take, length-drop, arith}
use Rattle.event_play.specs.PlayedWords.{after_words}
use Rattle.event_play.proofs.AtOnce.{told_all, told_first, told_none}
use Rattle.event_play.proofs.feed.feed_events.Goals as goal

pub words-init : goal.words-init
words-init g c = record {
  within = omega arith;
  told = λ t first told. told_none t first _ _ _ (omega (arith, c.ranges.fed.1)) told;
}

pub words-preserved : goal.words-preserved
words-preserved g c =
    let words = c.args.fed.words.now in
    let at = c.words.at in
    let le = c.words.invariant.within in
    let within = c.feed_first-at.ensures.within in
    record {
      within = let long = length-drop at words in omega (arith, le, within, long);
      told = λ t first told.
          told_first t first _ _ words at _ _ _ le c.saturating_add-played.ensures
          (c.feed_first-at.ensures.told (after_words t (take at words)) first
          (rw c.saturating_add-played.ensures (c.words.invariant.told t first told)));
    }

pub returns : goal.returns
returns g c = λ t first told.
    told_all t first _ _ c.args.fed.words.now c.words.at _ c.words.invariant.within c.words-test.false
    (c.words.invariant.told t first told)
