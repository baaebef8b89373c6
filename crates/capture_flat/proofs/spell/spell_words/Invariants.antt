use Rattle.std.proofs.Common.{◌≡◌, ◌++◌, List, length, map}
use Rattle.gathered_out.specs.Pieces.{piece}
use Rattle.gathered_out.specs.Puts.{sink_state}
use Rattle.gathered_out.proofs.Puts.{HasPut}
use Rattle.gpu_capture.specs.declared.event.Event.{Event}
use Rattle.gpu_capture.specs.declared.event.Event.TheVariants.{Gp0}
use Rattle.gpu_capture.specs.Written.{spell}
use Rattle.capture_flat.proofs.spell.spell_words.Given as goal

abbrev pub invariant-words : goal.invariant-words
invariant-words g l = record {
  done : List Event;
  are : map Gp0 l.fn.words ≡ done ++ map Gp0 l.left;
  put : HasPut (piece l.number (spell done)) (sink_state g.K.Sink.held g.K.Sink.faults l.initial.out l.initial.buffered)
      (sink_state g.K.Sink.held g.K.Sink.faults l.out l.buffered);
}

abbrev pub decreases-words : goal.decreases-words
decreases-words g l = length l.left
