-- Records of words that are played as one block, one event per word (our own rule).
use Rattle.std.specs.Prelude.{ℕ, List, [], ◌∷◌}
use Rattle.gathered_out.specs.Pieces.{Piece, piece}
use Rattle.gpu_capture.specs.Written.{spelled}
use Rattle.gpu_capture.specs.declared.event.Event.TheVariants.{Gp0}
use Rattle.event_play.specs.Replay.{next_number}

-- the records of words after `played` events, one piece per word
abbrev pub record_pieces : (played : ℕ) → (words : List ℕ) → List Piece
record_pieces played [] = []
record_pieces played (word ∷ words) =
    piece (next_number played) (spelled (Gp0 word)) ∷ record_pieces (next_number played) words
