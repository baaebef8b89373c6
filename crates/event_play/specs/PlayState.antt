-- What an event changes when it is played.
use Rattle.event_play.specs.RigState.{RigState}
use Rattle.event_play.specs.Streams.{Outlets}

-- the sink with the taps and the store steps, and the rig
pub record PlayState : Type 0 where
  pub out : Outlets
  pub rig : RigState

abbrev pub play_state : Outlets → RigState → PlayState
play_state out rig = record { out = out; rig = rig }
