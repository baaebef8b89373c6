use Rattle.std.proofs.Common.{◌++◌, [], ◌∷◌, arith}
use Rattle.gathered_out.specs.Pieces.{piece}
use Rattle.event_play.proofs.Listed.{put_on, put_piece}
use Rattle.capture_flat.proofs.Putting.{fails_more, pieces_on, put_more}
use Rattle.capture_flat.proofs.block.put_words.Goals as goal

pub returns-in-Err-clause-puts : goal.returns-in-Err-clause-puts
returns-in-Err-clause-puts g c =
    let at = c.loop-word.invariant in
    fails_more _ _ _ _ _ _
    (pieces_on _ at.done _ _ _ c.loop-word.word-index _ c.loop-word-test.true c.saturating_add-number.ensures
    c.word_record.ensures at.are)
    (put_on _ _ _ at.done _ _ at.put
    (put_piece (piece c.saturating_add-number.result c.word_record.result) _ _ _ c.in-Err.ensures.ok
    c.in-Err.ensures.failed))

pub loop-word-preserved : goal.loop-word-preserved
loop-word-preserved g c =
    let at = c.loop-word.invariant in
    record {
      done = at.done ++ piece c.saturating_add-number.result c.word_record.result ∷ [];
      are = pieces_on _ at.done _ _ _ c.loop-word.word-index _ c.loop-word-test.true c.saturating_add-number.ensures
          c.word_record.ensures at.are;
      put = put_more _ _ _ at.done _ at.put c.in_default.ensures.ok;
      faults = omega (arith, at.faults, c.in_default.ensures.faults);
    }
