use Rattle.event_play.proofs.Events.{step_fault, has_done, only_stepped}
use Rattle.event_play.proofs.Opened.{opened}
use Rattle.event_play.proofs.OwnWords.{word_steps}
use Rattle.event_play.proofs.rig.Rig.event.Goals as goal

pub returns-in-Gp0-clause-stepped : goal.returns-in-Gp0-clause-stepped
returns-in-Gp0-clause-stepped g c =
    rw c.in-Gp0.is (λ s stands. word_steps s _ c.in-Gp0.word _ _ _ (c.take_word.ensures.tells s stands))

pub returns-in-Ok-perform-clause-stepped : goal.returns-in-Ok-perform-clause-stepped
returns-in-Ok-perform-clause-stepped g c =
    let was = opened c.self.inside in
    let mid = opened c.self-in-Ok.inside in
    let did = has_done _ was mid _ c.next_number-number.result _ _ _ _ _ _ c.in-Ok.ensures.value c.self-in-Ok.view_is
    c.in-Ok-perform.ensures.performs.ok in
    rw (← c.self.view_is, ← c.next_number-number.ensures) (λ s stands.
    let step = only_stepped _ _ _ _ _ _ _ (did s stands) in
    record {
      machine = step.machine;
      notes = step.notes;
      is = step.is;
      stands = step.stands;
      heard = step.heard;
      cost = step.cost;
    })

pub returns-in-Err-clause-fault : goal.returns-in-Err-clause-fault
returns-in-Err-clause-fault g c = rw (← c.self.view_is) (λ s stands. step_fault _ s _ _ _ stands c.in-Err.ensures.value)
