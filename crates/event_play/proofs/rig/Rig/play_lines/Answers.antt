use Rattle.std.proofs.Common.{◌∙◌, ap, sym, inl, inr, refl, arith}
use Rattle.event_play.specs.Replay.{next_number}
use Rattle.event_play.proofs.Events.{step_fault}
use Rattle.event_play.proofs.Opened.{opened, opened_stands}
use Rattle.event_play.proofs.Plays.{feeds_part, plays, shows_part}
use Rattle.event_play.proofs.rig.Rig.play_lines.Goals as goal

pub returns-in-Err-clause-plays : goal.returns-in-Err-clause-plays
returns-in-Err-clause-plays g c =
    let was = opened c.self.inside in
    record {
      ok = λ t stands free. tt;
      ends = λ t stands free.
          let number = c.next_number-number.ensures ∙ ap next_number (sym stands.played) in
          let inside = opened_stands c.self.inside _ t c.self.view_is stands in
          record {
            is = step_fault was t.state (next_number t.played) _ _ inside.state c.in-Err.ensures.value;
            stands = c.self.view_is;
            unchanged = refl;
          };
      causes = record { kept = omega arith; cause = λ x. absurd x };
    }

pub returns-in-Err-perform-clause-plays : goal.returns-in-Err-perform-clause-plays
returns-in-Err-perform-clause-plays g c =
    let was = opened c.self.inside in
    record {
      ok = λ t stands free. tt;
      ends = λ t stands free.
          let number = c.next_number-number.ensures ∙ ap next_number (sym stands.played) in
          let inside = opened_stands c.self.inside _ t c.self.view_is stands in
          inl (feeds_part _ was _ t c.next_number-number.result _ _ _ _ _ c.in-Ok.ensures.value inside number
          c.in-Err-perform.ensures.performs.buffers (c.in-Err-perform.ensures.puts t.state.gpu inside.state.gpu).failed
          (c.in-Err-perform.ensures.performs.failed t.state.gpu inside.state.gpu)
          c.in-Err-perform.ensures.performs.played);
      causes = record {
        kept = c.in-Err-perform.ensures.performs.faults;
        cause = λ x. c.in-Err-perform.ensures.performs.cause;
      };
    }

pub returns-in_default-clause-plays : goal.returns-in_default-clause-plays
returns-in_default-clause-plays g c =
    let was = opened c.self.inside in
    let mid = opened c.self-2.inside in
    record {
      ok = λ t stands free. tt;
      ends = λ t stands free.
          let number = c.next_number-number.ensures ∙ ap next_number (sym stands.played) in
          let inside = opened_stands c.self.inside _ t c.self.view_is stands in
          let same = c.in-Ok-perform.ensures.same.2 in
          inr (
            number,
            (shows_part _ was mid _ t c.next_number-number.result _ _ _ _ _ _ _ _ c.in-Ok.ensures.value
                c.self-2.view_is inside number
                c.in-Ok-perform.ensures.performs.ok (λ s e. (c.in-Ok-perform.ensures.puts s e).ok)
                c.in-Ok-perform.ensures.performs.kept free (rw (← same) at c.in_default.ensures.mode)
                (rw (← same) at c.in_default.ensures.writes.failed) (rw (← same) at c.in_default.ensures.cost)),
          );
      causes = record {
        kept = omega (arith, c.in-Ok-perform.ensures.performs.faults, c.in_default.ensures.writes.faults);
        cause = λ x. omega (arith, c.in-Ok-perform.ensures.performs.faults, c.in_default.ensures.writes.cause);
      };
    }

pub returns-in-Ok-write_after-clause-plays : goal.returns-in-Ok-write_after-clause-plays
returns-in-Ok-write_after-clause-plays g c =
    let was = opened c.self.inside in
    let mid = opened c.self-2.inside in
    record {
      ok = λ t stands free.
          let number = c.next_number-number.ensures ∙ ap next_number (sym stands.played) in
          let inside = opened_stands c.self.inside _ t c.self.view_is stands in
          let same = c.in-Ok-perform.ensures.same.2 in
          plays _ was mid _ t c.next_number-number.result _ _ _ _ _ _ _ _ c.in-Ok.ensures.value c.self-2.view_is
          inside number c.in-Ok-perform.ensures.performs.ok (λ s e. (c.in-Ok-perform.ensures.puts s e).ok)
          c.in-Ok-perform.ensures.performs.kept free
          (rw (← same) at c.in-Ok-write_after.ensures.writes.ok) (rw (← same) at c.in-Ok-write_after.ensures.cost);
      ends = λ t stands free. tt;
      causes = record {
        kept = omega (arith, c.in-Ok-perform.ensures.performs.faults, c.in-Ok-write_after.ensures.writes.faults);
        cause = λ x. absurd x;
      };
    }
