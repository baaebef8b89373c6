use Rattle.std.proofs.Common.{◌≡◌, ◌≤◌, ◌<◌, ◌^◌, ℕ, List, Option, None, map}
use Rattle.gpu_capture.specs.Reader.{work_left}
use Rattle.event_play.specs.Replay.{from_state}
use Rattle.event_play.specs.RigState.{Stands}
use Rattle.event_play.specs.Step.{Machine}
use Rattle.event_play.specs.Streams.{streams}
use Rattle.capture_cut.specs.Came.{PlaysFirst}
use Rattle.capture_cut.specs.Cut.{cut_at}
use Rattle.capture_cut.proofs.first.play_first.Given as goal

abbrev pub invariant-events : goal.invariant-events
invariant-events g l = record {
  first : (s : Machine) (held : Option (List ℕ)) → Stands l.fn.rig s → PlaysFirst (cut_at l.k (from_state s 0))
      (streams (g.S.Source.left l.fn.source) held (map g.T.Listener.heard l.fn.taps.items) l.fn.steps)
      (streams (g.S.Source.left l.source) held (map g.T.Listener.heard l.taps.items) l.steps) l.rig l.reader.progress;
  ready : l.reader.stop ≡ None;
  few : work_left l.reader.progress < 2 ^ 51;
  faults : g.S.Source.faults l.fn.source ≤ g.S.Source.faults l.source;
}
