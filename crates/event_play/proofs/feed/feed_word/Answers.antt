use Rattle.std.proofs.Common.{inl, refl, rules}
use Rattle.std.proofs.lemmas.Result.{on_ok_weaker, on_err_weaker}
use Rattle.event_play.specs.Feeding.{BuffersLines}
use Rattle.event_play.proofs.Feeds.{quiet_feeds, word_feeds, word_stops}
use Rattle.event_play.proofs.Listed.{line_pieces}
use Rattle.event_play.proofs.Outlets.{puts_as}
use Rattle.event_play.proofs.feed.feed_word.Goals as goal

pub returns-in-Some-List-clause-feeds : goal.returns-in-Some-List-clause-feeds
returns-in-Some-List-clause-feeds g c =
    let fed = c.gp0-note.ensures in
    rw (← c.mode.ensures, c.in-Some-List.is, c.in-Some-List.field-0-is) (record {
      ok = λ s e.
          on_ok_weaker c.put_listed.result
          (λ put. word_feeds _ s c.args.word.number c.args.word.value c.gp0-note.result _ _ _
          (fed.feed s e)
          (fed.note s e) fed.taps (fed.cost s e))
          c.put_listed.ensures.puts.puts.ok;
      failed = λ s e.
          on_err_weaker c.put_listed.result
          (λ part. word_stops _ s c.args.word.number c.args.word.value c.gp0-note.result _ _ _
          (fed.feed s e)
          (fed.note s e) fed.taps (fed.cost s e))
          c.put_listed.ensures.puts.cause;
      puts = λ s e.
          puts_as c.args.word.number _ _ _ _ c.put_listed.result
          (line_pieces s c.args.word.number c.args.word.value c.gp0-note.result (fed.note s e))
          c.put_listed.ensures.puts;
      kept = inl tt;
      buffers = on_err_weaker c.put_listed.result (λ part. tt) c.put_listed.ensures.puts.cause;
      cause = c.put_listed.ensures.puts.cause;
      faults = c.put_listed.ensures.puts.faults;
    })

pub returns-in_default-clause-feeds : goal.returns-in_default-clause-feeds
returns-in_default-clause-feeds g c =
    let fed = c.gp0.ensures in
    let not : BuffersLines (g.O.Outlet.mode c.args.lines.now) → ⊥ = search rules in
    quiet_feeds (g.O.Outlet.mode c.args.lines.now) c.args.word.number c.args.word.value c.gp0.result _ _ _ _
    not refl refl
    refl fed.feed
    fed.note fed.taps fed.cost
