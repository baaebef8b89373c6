use Rattle.std.proofs.Common.{◌*◌, drop}
use Rattle.dev_io.specs.Device.{side}
use Rattle.dev_io.proofs.Writing.{IsUnderway}
use Rattle.packet_text.specs.Tap.{item_lines, last_numbers}
use Rattle.packet_text.proofs.tap.write_items.Given as goal

abbrev pub invariant-loop-item : goal.invariant-loop-item
invariant-loop-item g l =
    let numbers = (g.T.Listener.heard l.tap).numbers in
    IsUnderway (side g.K.Sink.held g.K.Sink.faults) l.initial.out l.out (item_lines (drop (3 * l.item) numbers))
    (item_lines (last_numbers numbers))
