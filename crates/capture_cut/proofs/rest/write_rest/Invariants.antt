use Rattle.std.proofs.Common.{◌≡◌, ◌≤◌, ◌<◌, ◌+◌, ◌^◌, ℕ, List, None}
use Rattle.gpu_capture.specs.Reader.{work_left}
use Rattle.gpu_taps.specs.Tally.{Reading}
use Rattle.event_play.specs.RigState.{RigState}
use Rattle.event_play.specs.Streams.{Streams, streams}
use Rattle.capture_cut.specs.Came.{Came, reached}
use Rattle.capture_cut.specs.Cut.{CutAt}
use Rattle.capture_cut.proofs.Coming.{Comes}
use Rattle.capture_cut.proofs.rest.write_rest.Given as goal

abbrev pub invariant-events : goal.invariant-events
invariant-events g l = record {
  came : (at : CutAt) (before : Streams) (heard : List Reading) (steps : ℕ) (rig : RigState)
      → Came at before (streams (g.S.Source.left l.fn.source) (g.K.Sink.held l.fn.out) heard steps) rig
      (reached l.fn.reader.progress l.read l.fn.size)
      → Comes at before (streams (g.S.Source.left l.source) (g.K.Sink.held l.out) heard steps) rig
      l.reader.progress l.draft l.since l.number;
  ready : l.reader.stop ≡ None;
  fits : l.draft.file.size + 4 ≤ 2 ^ 30;
  room : l.number + work_left l.reader.progress < 2 ^ 52;
  read_faults : g.S.Source.faults l.fn.source ≤ g.S.Source.faults l.source;
  write_faults : g.K.Sink.faults l.fn.out ≤ g.K.Sink.faults l.out;
}

abbrev pub decreases-events : goal.decreases-events
decreases-events g l = work_left l.reader.progress
