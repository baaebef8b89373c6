use Rattle.std.proofs.Common.{◌≡◌, ◌≤◌, ◌++◌, List, drop}
use Rattle.gathered_out.specs.Pieces.{Piece}
use Rattle.gathered_out.specs.Puts.{holding}
use Rattle.event_play.specs.Listing.{ArePut}
use Rattle.capture_flat.specs.Records.{record_pieces}
use Rattle.capture_flat.proofs.block.put_words.Given as goal

abbrev pub invariant-loop-word : goal.invariant-loop-word
invariant-loop-word g l = record {
  done : List Piece;
  are : record_pieces l.played l.words ≡ done ++ record_pieces l.number (drop l.word-index l.words);
  put : ArePut done (holding (g.K.Sink.held l.fn.out) l.fn.buffered) (holding (g.K.Sink.held l.out) l.buffered);
  faults : g.K.Sink.faults l.fn.out ≤ g.K.Sink.faults l.out;
}
