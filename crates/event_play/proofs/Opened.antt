-- A rig whose fields are open.
use Rattle.std.proofs.Common.{◌≡◌, subst, sym}
use Rattle.event_play.specs.Replay.{Replay}
use Rattle.event_play.specs.RigState.{RigState, StandsFor}
use Rattle.event_play.specs.declared.rig.Rig.TheInside.{Inside}

-- its state, as contracts see it
abbrev pub opened : Inside → RigState
opened rig = record { gpu = rig.gpu; ram = rig.ram; running = rig.running; played = rig.played }

pub opened_stands : (rig : Inside) (value : RigState) (t : Replay) → opened rig ≡ value → StandsFor value t
    → StandsFor (opened rig) t
opened_stands rig value t is stands = let Q : RigState → Type 0 = λ rig. StandsFor rig t in subst Q (sym is) stands
