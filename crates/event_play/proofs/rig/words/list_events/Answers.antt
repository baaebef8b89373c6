use Rattle.std.proofs.Common.{◌+◌, ◌-◌, List, Ok, Err, option_to_list, take, drop, length, length-drop}
use Rattle.std.proofs.Common.{◌∙◌, refl, subst, arith}
use Rattle.gathered_out.specs.Pieces.{Piece}
use Rattle.gathered_out.specs.Puts.{holding}
use Rattle.event_play.specs.Listing.{ArePut, PutsPieces, listed_pieces}
use Rattle.event_play.specs.PlayedWords.{after_words, word_notes}
use Rattle.event_play.proofs.AtOnce.{rest_both, taken_both, told_all, told_first, told_none, told_rest}
use Rattle.event_play.proofs.Listed.{fails_on, none_put, pieces_on, put_on}
use Rattle.event_play.proofs.rig.words.list_events.Goals as goal

pub words-init : goal.words-init
words-init g c = record {
  within = omega arith;
  told = λ t first told. told_none t first _ _ _ (omega (arith, c.ranges.fed.1)) told;
  puts = λ t first told. none_put _;
  faults = omega arith;
  same = (refl, refl, refl);
}

pub returns-clause-told : goal.returns-clause-told
returns-clause-told g c = λ t first told.
    told_all t first _ _ c.args.fed.words.now c.words.at _ c.words.invariant.within c.words-test.false
    (c.words.invariant.told t first told)

pub returns-in-Err-clause-told : goal.returns-in-Err-clause-told
returns-in-Err-clause-told g c = λ t first told.
    let words = c.args.fed.words.now in
    let at = c.words.at in
    let count = c.feed_noted-noted.result.count in
    let le = c.words.invariant.within in
    let within = c.feed_noted-noted.ensures.within in
    let long = length-drop at words in
    let here = told_first t first _ _ words at count _ _ le c.saturating_add-played.ensures
    (c.feed_noted-noted.ensures.told (after_words t (take at words)) first
    (rw c.saturating_add-played.ensures (c.words.invariant.told t first told))) in
    told_rest t first _ _ words (at + count) _ _ (omega (arith, le, within, long)) c.saturating_add.ensures
    (c.feed_events.ensures (after_words t (take (at + count) words)) first (rw c.saturating_add.ensures here))

pub returns-in-Err-clause-puts : goal.returns-in-Err-clause-puts
returns-in-Err-clause-puts g c = λ t first told.
    let words = c.args.fed.words.now in
    let at = c.words.at in
    let count = c.feed_noted-noted.result.count in
    let le = c.words.invariant.within in
    let within = c.feed_noted-noted.ensures.within in
    let was = holding (g.K.Sink.held c.args.lines.now.out.now) c.args.lines.now.buffered.now in
    let now = holding (g.K.Sink.held c.put_listed.new.lines.out.now) c.put_listed.new.lines.buffered.now in
    let P : List Piece → Type 0 = λ pieces. PutsPieces {Value = Unit {0}} pieces was now (Err c.in-Err.lacking) in
    fails_on was now t (take (at + count) words) _ words c.in-Err.lacking
    (rest_both words (at + count) (let long = length-drop at words in omega (arith, le, within, long)))
    (subst P
    (pieces_on t (take at words) (take count (take (length words - at) (drop at words))) (take (at + count) words)
    c.feed_noted-noted.result.note (taken_both words at count le)
    (c.feed_noted-noted.ensures.gives (after_words t (take at words)) first
    (rw c.saturating_add-played.ensures (c.words.invariant.told t first told))))
    (put_on was _ now (listed_pieces (word_notes t (take at words)))
    (listed_pieces (option_to_list c.feed_noted-noted.result.note)) (Err c.in-Err.lacking)
    (c.words.invariant.puts t first told) c.in-Err.ensures.puts.puts))

pub returns-in-Err-clause-causes : goal.returns-in-Err-clause-causes
returns-in-Err-clause-causes g c =
    let was = c.words.invariant.faults in
    let puts = c.in-Err.ensures.puts in
    record { kept = omega (arith, was, puts.faults); cause = λ x. omega (arith, was, puts.cause) }

pub returns-in-Err-clause-same : goal.returns-in-Err-clause-same
returns-in-Err-clause-same g c =
    let was = c.words.invariant.same in
    let same = c.in-Err.ensures.same in
    (was.0 ∙ same.0, was.1 ∙ same.1, was.2 ∙ same.2)

pub words-preserved : goal.words-preserved
words-preserved g c =
    let words = c.args.fed.words.now in
    let at = c.words.at in
    let count = c.feed_noted-noted.result.count in
    let le = c.words.invariant.within in
    let within = c.feed_noted-noted.ensures.within in
    record {
      within = let long = length-drop at words in omega (arith, le, within, long);
      told = λ t first told.
          told_first t first _ _ words at count _ _ le c.saturating_add-played.ensures
          (c.feed_noted-noted.ensures.told (after_words t (take at words)) first
          (rw c.saturating_add-played.ensures (c.words.invariant.told t first told)));
      puts = λ t first told.
          let was = holding (g.K.Sink.held c.args.lines.now.out.now) c.args.lines.now.buffered.now in
          let now = holding (g.K.Sink.held c.put_listed.new.lines.out.now) c.put_listed.new.lines.buffered.now in
          let P : List Piece → Type 0 = λ pieces. ArePut pieces was now in
          subst P
          (pieces_on t (take at words) (take count (take (length words - at) (drop at words)))
          (take (at + count) words) c.feed_noted-noted.result.note (taken_both words at count le)
          (c.feed_noted-noted.ensures.gives (after_words t (take at words)) first
          (rw c.saturating_add-played.ensures (c.words.invariant.told t first told))))
          (put_on was _ now (listed_pieces (word_notes t (take at words)))
          (listed_pieces (option_to_list c.feed_noted-noted.result.note)) (Ok c.in_default.field-0)
          (c.words.invariant.puts t first told) c.in_default.ensures.puts.puts).ok;
      faults = let a = c.words.invariant.faults in let b = c.in_default.ensures.puts.faults in omega (arith, a, b);
      same =
          let was = c.words.invariant.same in
          let same = c.in_default.ensures.same in
          (was.0 ∙ same.0, was.1 ∙ same.1, was.2 ∙ same.2);
    }
