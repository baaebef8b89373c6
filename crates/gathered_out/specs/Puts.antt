-- Output of one event, buffered in pieces with its number (our own rule).
use Rattle.std.specs.Prelude.{◌≡◌, ◌≤◌, ◌++◌, ℕ, List, [], ◌∷◌, Option, Result, IfErr, OnErr, OnOk}
use Rattle.dev_io.specs.Device.{Rose, appended}
use Rattle.gathered_out.specs.Pieces.{AreOut, BreaksOff, Piece, bytes_of}

abbrev pub AreNumbered : ℕ → List Piece → Type 0
AreNumbered number [] = Unit {0}
AreNumbered number (p ∷ pieces) = (p.number ≡ number) × AreNumbered number pieces

-- pieces with this event number that together are these bytes
pub record ArePieces (number : ℕ) (bytes : List ℕ) (pieces : List Piece) : Type 0 where
  pub numbers : AreNumbered number pieces
  pub bytes_are : bytes_of pieces ≡ bytes

-- the content of a sink (None if unknown), and the buffered pieces for it
pub record Holding : Type 0 where
  pub held : Option (List ℕ)
  pub buffered : List Piece

abbrev pub holding : Option (List ℕ) → List Piece → Holding
holding held buffered = record { held = held; buffered = buffered }

-- The output `due` of an event was put: after all earlier pieces, it is written or buffered.
pub record IsPut (due : Piece) (before now : Holding) : Type 0 where
  pub parts : List Piece
  pub are : ArePieces due.number due.bytes parts
  pub out : (base : Option (List ℕ)) (pieces : List Piece) → AreOut base pieces before.held before.buffered
      → AreOut base (pieces ++ parts) now.held now.buffered

-- The output could not be put: writing failed within it or within the pieces before it.
pub record BreaksPut (due : Piece) (before : Holding) (now : Option (List ℕ)) (lacking : ℕ) : Type 0 where
  pub parts : List Piece
  pub are : ArePieces due.number due.bytes parts
  pub off : (base : Option (List ℕ)) (pieces : List Piece) → AreOut base pieces before.held before.buffered
      → BreaksOff (pieces ++ parts) base now lacking

-- a sink, and the buffered pieces for it
pub record SinkState : Type 0 where
  pub held : Option (List ℕ)
  pub faults : ℕ
  pub buffered : List Piece

abbrev pub sink_state : {Sink : Type 0} → (held : Sink → Option (List ℕ)) → (faults : Sink → ℕ) → Sink → List Piece
    → SinkState
sink_state held faults sink buffered = record { held = held sink; faults = faults sink; buffered = buffered }

-- The effect of a call that puts the output `due` of an event. On failure the sink's count of faults is larger.
pub record Puts {Value : Type 0} (due : Piece) (before now : SinkState) (result : Result Value ℕ) : Type 0 where
  pub ok : OnOk result (IsPut due (holding before.held before.buffered) (holding now.held now.buffered))
  pub failed : IfErr result (BreaksPut due (holding before.held before.buffered) now.held)
  pub cause : OnErr result (Rose before.faults now.faults)
  pub faults : before.faults ≤ now.faults

-- All buffered pieces were written.
pub record IsWritten (before now : Option (List ℕ)) (old : List Piece) : Type 0 where
  pub stands : (base : Option (List ℕ)) (pieces : List Piece) → AreOut base pieces before old
      → now ≡ appended base (bytes_of pieces)

-- They were not: writing failed within one of the pieces.
pub record BreaksWriting (before now : Option (List ℕ)) (old : List Piece) (lacking : ℕ) : Type 0 where
  pub off : (base : Option (List ℕ)) (pieces : List Piece) → AreOut base pieces before old
      → BreaksOff pieces base now lacking
