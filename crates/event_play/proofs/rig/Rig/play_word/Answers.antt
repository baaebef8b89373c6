use Rattle.std.proofs.Common.{◌∙◌, ap, sym, refl, inl, None, arith}
use Rattle.event_play.specs.Replay.{next_number}
use Rattle.event_play.specs.RigState.{RigState}
use Rattle.event_play.specs.declared.operation.Operation.TheVariants as operation
use Rattle.event_play.specs.declared.operation.Words.TheVariants.{One}
use Rattle.event_play.proofs.Opened.{opened, opened_stands}
use Rattle.event_play.proofs.Plays.{feeds_part, nothing_after, plays, word_done}
use Rattle.event_play.proofs.rig.Rig.play_word.Goals as goal

pub returns-in-Ok-clause-plays : goal.returns-in-Ok-clause-plays
returns-in-Ok-clause-plays g c =
    let was = opened c.self.inside in
    let fed : RigState = record was { gpu = c.feed_word.new.gpu } in
    record {
      ok = λ t stands free.
          let number = c.next_number-number.ensures ∙ ap next_number (sym stands.played) in
          let inside = opened_stands c.self.inside _ t c.self.view_is stands in
          plays _ was fed fed t c.next_number-number.result _ (operation.Feed (One c.args.word) was.running)
          None _ _ _ _ _ refl refl inside number
          (λ s e. word_done _ was c.next_number-number.result c.args.word _ _ _ s (c.in-Ok.ensures.feeds.ok s e))
          (λ s e. (c.in-Ok.ensures.feeds.puts s e).ok) c.in-Ok.ensures.feeds.kept free
          (nothing_after c.args.lines.now.mode _) (omega arith);
      ends = λ t stands free. tt;
      causes = record { kept = c.in-Ok.ensures.feeds.faults; cause = λ x. absurd x };
    }

pub returns-in-Err-clause-plays : goal.returns-in-Err-clause-plays
returns-in-Err-clause-plays g c =
    let was = opened c.self.inside in
    record {
      ok = λ t stands free. tt;
      ends = λ t stands free.
          let number = c.next_number-number.ensures ∙ ap next_number (sym stands.played) in
          let inside = opened_stands c.self.inside _ t c.self.view_is stands in
          inl (feeds_part _ was _ t c.next_number-number.result _
          (operation.Feed (One c.args.word) was.running) _ _ _
          refl inside number c.in-Err.ensures.feeds.buffers
          (c.in-Err.ensures.feeds.puts t.state.gpu inside.state.gpu).failed
          (record { feeding = c.in-Err.ensures.feeds.failed t.state.gpu inside.state.gpu; ram = refl; running = refl })
          refl);
      causes = record { kept = c.in-Err.ensures.feeds.faults; cause = λ x. c.in-Err.ensures.feeds.cause };
    }
