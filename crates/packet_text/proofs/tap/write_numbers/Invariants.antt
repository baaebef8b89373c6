use Rattle.std.proofs.Common.{drop}
use Rattle.dev_io.specs.Device.{side}
use Rattle.dev_io.proofs.Writing.{IsUnderway}
use Rattle.packet_text.specs.Tap.{numbers_text}
use Rattle.packet_text.proofs.tap.write_numbers.Given as goal

abbrev pub invariant-loop-i : goal.invariant-loop-i
invariant-loop-i g l =
    let numbers = (g.T.Listener.heard l.tap).numbers in
    IsUnderway (side g.K.Sink.held g.K.Sink.faults) l.initial.out l.out (numbers_text (drop l.i numbers))
    (numbers_text numbers)
