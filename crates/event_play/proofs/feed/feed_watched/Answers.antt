use Rattle.std.proofs.Common.{inl, arith}
use Rattle.std.proofs.lemmas.Result.{on_ok_weaker, on_err_weaker}
use Rattle.event_play.proofs.Feeds.{watched_feeds, watched_lines, watched_stops}
use Rattle.event_play.proofs.Putting.{puts_same}
use Rattle.event_play.proofs.feed.feed_watched.Goals as goal

pub returns-clause-feeds : goal.returns-clause-feeds
returns-clause-feeds g c =
    let fed = c.gp0-note.ensures in
    record {
      ok = λ s e.
          on_ok_weaker c.put_changed.result
          (λ put. watched_feeds c.args.watch.cell s c.args.watch.number c.args.watch.word c.gp0-note.result _ _ _
          (fed.feed s e) (fed.note s e) fed.taps
          (omega (arith, fed.cost s e, c.seen_cell-before.ensures.cost, c.seen_cell-after.ensures.cost)))
          c.put_changed.ensures.puts.ok;
      failed = λ s e.
          on_err_weaker c.put_changed.result
          (λ part. watched_stops c.args.watch.cell s c.args.watch.number c.args.watch.word c.gp0-note.result _ _ _
          (fed.feed s e) (fed.note s e) fed.taps
          (omega (arith, fed.cost s e, c.seen_cell-before.ensures.cost, c.seen_cell-after.ensures.cost)))
          c.put_changed.ensures.puts.cause;
      puts = λ s e.
          puts_same _ _ _ _ _ c.put_changed.result
          (watched_lines c.args.watch.cell s c.args.watch.number c.args.watch.word c.gp0-note.result _ _ _ _ e
          (fed.feed s e) (fed.note s e) c.seen_cell-before.ensures.value c.seen_cell-after.ensures.value)
          c.put_changed.ensures.puts;
      kept = inl tt;
      buffers = on_err_weaker c.put_changed.result (λ part. tt) c.put_changed.ensures.puts.cause;
      cause = c.put_changed.ensures.puts.cause;
      faults = c.put_changed.ensures.puts.faults;
    }
