use Rattle.std.proofs.Common.{replicate}
use Rattle.gathered_out.specs.Pieces.{piece}
use Rattle.gathered_out.specs.Puts.{sink_state}
use Rattle.gathered_out.proofs.Puts.{HasPut}
use Rattle.gpu_capture.specs.declared.event.Event.TheVariants.{Skip}
use Rattle.gpu_capture.specs.Written.{spell}
use Rattle.capture_flat.proofs.spell.spell_skips.Given as goal

abbrev pub invariant-loop-i : goal.invariant-loop-i
invariant-loop-i g l = HasPut (piece l.number (spell (replicate l.i Skip)))
    (sink_state g.K.Sink.held g.K.Sink.faults l.initial.out l.initial.buffered)
    (sink_state g.K.Sink.held g.K.Sink.faults l.out l.buffered)
