use Rattle.std.proofs.Common.{drop, map, flat_map}
use Rattle.dev_io.specs.Device.{side}
use Rattle.dev_io.proofs.Writing.{IsUnderway}
use Rattle.packet_text.specs.Tap.{tap_line}
use Rattle.event_play.proofs.finals.write_report.Given as goal

abbrev pub invariant-loop-i : goal.invariant-loop-i
invariant-loop-i g l =
    IsUnderway (side g.K.Sink.held g.K.Sink.faults) l.initial.out l.out
    (flat_map tap_line (map g.T.Listener.heard (drop l.i l.taps.items)))
    (flat_map tap_line (map g.T.Listener.heard l.taps.items))
