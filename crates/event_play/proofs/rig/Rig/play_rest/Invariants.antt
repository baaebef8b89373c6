use Rattle.std.proofs.Common.{◌≡◌, ◌≤◌, None, OnOk, IfErr, map}
use Rattle.dev_io.specs.Device.{Rose}
use Rattle.gpu_capture.specs.Reader.{IsReadFault}
use Rattle.event_play.specs.Replay.{from_state, script_after}
use Rattle.event_play.specs.RigState.{Stands}
use Rattle.event_play.specs.Step.{Machine}
use Rattle.event_play.specs.Streams.{streams}
use Rattle.event_loop.proofs.Awaiting.{events_left}
use Rattle.event_play.proofs.Awaiting.{Awaits}
use Rattle.event_play.proofs.rig.Rig.play_rest.Given as goal

abbrev pub invariant-events : goal.invariant-events
invariant-events g l = record {
  awaits : (s : Machine) → Stands l.fn.self s → Awaits l.fn.lines.mode
      (script_after (from_state s l.fn.self.played) l.fn.capture.reader.now.progress)
      (streams (g.S.Source.left l.fn.capture.source.now) (g.K.Sink.held l.fn.lines.out.now)
      (map g.T.Listener.heard l.fn.taps.items) l.fn.steps)
      (streams (g.S.Source.left l.capture.source.now) (g.K.Sink.held l.lines.out.now)
      (map g.T.Listener.heard l.taps.items) l.steps)
      l.lines.buffered.now l.since l.self l.capture.reader.now.progress l.next;
  running : OnOk l.next (l.capture.reader.now.stop ≡ None);
  known : OnOk l.next (1 ≤ l.capture.reader.now.progress.version);
  read_cause : IfErr l.next
      (λ stop. IsReadFault stop → Rose (g.S.Source.faults l.fn.capture.source.now)
      (g.S.Source.faults l.capture.source.now));
  read_faults : g.S.Source.faults l.fn.capture.source.now ≤ g.S.Source.faults l.capture.source.now;
  reader : l.capture.reader.ghost_name ≡ l.fn.capture.reader.ghost_name;
  source : l.capture.source.ghost_name ≡ l.fn.capture.source.ghost_name;
  same : (l.fn.lines.buffered.ghost_name ≡ l.lines.buffered.ghost_name)
      × (l.fn.lines.out.ghost_name ≡ l.lines.out.ghost_name) × (l.fn.lines.mode ≡ l.lines.mode);
  write_faults : g.K.Sink.faults l.fn.lines.out.now ≤ g.K.Sink.faults l.lines.out.now;
}

abbrev pub decreases-events : goal.decreases-events
decreases-events g l = events_left l.capture.reader.now.progress l.next
