use Rattle.std.proofs.Common.{inl, inr}
use Rattle.gpu_snapshot.proofs.Played.{plays_capture, plays_state, refuses_any}
use Rattle.gpu_snapshot.proofs.play.play_any.Goals as goal

pub returns-in-Ok-clause-ends : goal.returns-in-Ok-clause-ends
returns-in-Ok-clause-ends g c = λ s stands. elim c.in-Ok.ensures.opened [
  | inl opens ↦ plays_capture _ s _ _ _ _ _ _ _ c.in-Ok.rig _ c.in-Ok.reader _ opens stands
      c.play_from-ending.ensures.ends
  | inr opens ↦ plays_state _ s _ _ _ _ _ _ _ c.in-Ok.rig _ c.in-Ok.reader _ opens c.play_from-ending.ensures.ends
]

pub returns-in-Err-clause-ends : goal.returns-in-Err-clause-ends
returns-in-Err-clause-ends g c = λ s stands.
    rw c.refused.ensures (refuses_any _ s _ _ _ _ _ _ stands c.in-Err.fault c.in-Err.ensures.refused)
