use Rattle.std.proofs.Common.{drop, map, flat_map}
use Rattle.dev_io.specs.Device.{side}
use Rattle.dev_io.proofs.Writing.{IsUnderway}
use Rattle.packet_text.specs.Tap.{last_lines}
use Rattle.psxgpu_tool.proofs.ending.write_lasts.Given as goal

abbrev pub invariant-loop-i : goal.invariant-loop-i
invariant-loop-i g l =
    let heard = map g.T.Listener.heard l.taps.items in
    IsUnderway (side g.E.Sink.held g.E.Sink.faults) l.initial.err l.err (flat_map last_lines (drop l.i heard))
    (flat_map last_lines heard)
