use Rattle.std.proofs.Common.{◌≤◌, ◌-◌, length}
use Rattle.event_play.specs.Replay.{from_state}
use Rattle.event_play.specs.RigState.{Stands}
use Rattle.event_play.specs.Step.{Machine}
use Rattle.psxgpu_c.proofs.NoteLemmas.{HasNotedFirst}
use Rattle.psxgpu_c.proofs.notes.take_told.Given as goal

abbrev pub invariant-words : goal.invariant-words
invariant-words g l = record {
  within : l.at ≤ length l.words;
  most : l.count ≤ l.at;
  told : (s : Machine) → Stands l.initial.rig s
      → HasNotedFirst (from_state s l.initial.rig.played) l.words l.at l.rig l.initial.notes l.notes l.count;
}

abbrev pub decreases-words : goal.decreases-words
decreases-words g l = length l.words - l.at
