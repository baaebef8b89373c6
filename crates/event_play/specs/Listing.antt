-- Lines of notes of words that are played as one block, one event per word.
use Rattle.std.specs.Prelude.{◌≤◌, ℕ, List, [], ◌++◌, map, Option, Result, OnOk, OnErr, IfErr}
use Rattle.dev_io.specs.Device.{Rose}
use Rattle.gathered_out.specs.Pieces.{AreOut, Piece, piece}
use Rattle.gathered_out.specs.Puts.{BreaksWriting, Holding, SinkState, holding}
use Rattle.gp0_packets.specs.declared.note.Note.{Note}
use Rattle.gpu_core.specs.Feeds.{but_pixels}
use Rattle.packet_text.specs.Line.{note_line}
use Rattle.event_play.specs.declared.ending.Mode.{Mode}
use Rattle.event_play.specs.declared.ending.Mode.TheVariants.{List as Listing}

-- the lines of notes except for pixels of a load, each a piece of the note's event
abbrev pub listed_pieces : List Note → List Piece
listed_pieces notes = map (λ note. piece note.event (note_line note)) (but_pixels notes)

-- the pieces that the mode asks for
abbrev pub pieces_for : Mode → List Note → List Piece
pieces_for Listing notes = listed_pieces notes
pieces_for mode notes = []

-- These pieces were added: they are written or buffered, after all earlier ones.
pub record ArePut (pieces : List Piece) (before now : Holding) : Type 0 where
  pub out : (base : Option (List ℕ)) (all : List Piece) → AreOut base all before.held (before.buffered ++ pieces)
      → AreOut base all now.held now.buffered

-- what a call that adds them does; on failure, writing broke off among the buffered pieces and these
pub record PutsPieces {Value : Type 0} (pieces : List Piece) (before now : Holding) (result : Result Value ℕ)
    : Type 0 where
  pub ok : OnOk result (ArePut pieces before now)
  pub failed : IfErr result (BreaksWriting before.held now.held (before.buffered ++ pieces))

-- what a sink holds
abbrev pub held_by : SinkState → Holding
held_by at = holding at.held at.buffered

-- the same with the faults of the sink
pub record PutsLines {Value : Type 0} (pieces : List Piece) (before now : SinkState) (result : Result Value ℕ)
    : Type 0 where
  pub puts : PutsPieces pieces (held_by before) (held_by now) result
  pub cause : OnErr result (Rose before.faults now.faults)
  pub faults : before.faults ≤ now.faults
