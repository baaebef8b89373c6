-- Pieces of output that are buffered before they are written (our own rule).
use Rattle.std.specs.Prelude.{◌≡◌, ◌+◌, ◌-◌, ◌++◌, ℕ, List, [], ◌∷◌, Option, take, drop, nat_lt, if◌then◌else◌}
use Rattle.dev_io.specs.Device.{appended, AppendsPart}
use Rattle.gathered_out.specs.declared.extent.Extent.{Extent}

-- a piece: the number of its event, and its bytes
pub record Piece : Type 0 where
  pub number : ℕ
  pub bytes : List ℕ

abbrev pub piece : (number : ℕ) → List ℕ → Piece
piece number bytes = record { number = number; bytes = bytes }

abbrev pub bytes_of : List Piece → List ℕ
bytes_of [] = []
bytes_of (p ∷ pieces) = p.bytes ++ bytes_of pieces

-- All pieces were written to a sink after its content `before`, except the last ones, which are buffered.
pub record AreOut (before : Option (List ℕ)) (pieces : List Piece) (held : Option (List ℕ)) (buffered : List Piece)
    : Type 0 where
  pub written : List Piece
  pub are : pieces ≡ written ++ buffered
  pub stands : held ≡ appended before (bytes_of written)

-- Writing failed in the piece of event `number`. The pieces before it are written, and a proper part of it.
pub record BreaksOff (pieces : List Piece) (before now : Option (List ℕ)) (number : ℕ) : Type 0 where
  pub whole : List Piece
  pub broken : Piece
  pub later : List Piece
  pub are : pieces ≡ whole ++ broken ∷ later
  pub number_is : number ≡ broken.number
  pub stands : AppendsPart (appended before (bytes_of whole)) now broken.bytes

-- ---- how pieces are stored

-- bytes split into pieces
abbrev pub cut : List Extent → List ℕ → List Piece
cut [] bytes = []
cut (e ∷ extents) bytes = record { number = e.number; bytes = take e.len bytes } ∷ cut extents (drop e.len bytes)

-- the total length of the pieces in bytes
abbrev pub total : List Extent → ℕ
total [] = 0
total (e ∷ extents) = e.len + total extents

-- the event number of the first incomplete piece if `taken` bytes were written; 0 if none is incomplete
abbrev pub lacking : List Extent → (taken : ℕ) → ℕ
lacking [] taken = 0
lacking (e ∷ extents) taken = if nat_lt taken e.len then e.number else lacking extents (taken - e.len)
