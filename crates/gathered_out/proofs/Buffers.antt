-- Output of successive events, and its buffering.
use Rattle.std.proofs.Common.{◌≡◌, ◌⊎◌, ◌++◌, List, [], ◌∷◌, ℕ, Option, refl, ap, sym, ◌∙◌}
use Rattle.std.proofs.Common.{subst, inl, inr}
use Rattle.dev_io.specs.Device.{AppendsPart, appended}
use Rattle.dev_io.proofs.Appended.{appended-appended, appended-nil}
use Rattle.dev_io.proofs.Parts.{part_after}
use Rattle.gathered_out.specs.Pieces.{AreOut, Piece, bytes_of, piece}
use Rattle.gathered_out.specs.Puts.{AreNumbered, ArePieces, BreaksPut, BreaksWriting, IsPut, IsWritten, holding}
use Rattle.gathered_out.proofs.Pieces.{bytes_append, none_buffered}

-- a piece among others is a part of an event's output, after all earlier output and the front of its own
pub record IsPart (Due : ℕ → List ℕ → List ℕ → Type 0) (base mid : Option (List ℕ)) (whole : List Piece)
    (broken : Piece) : Type 0 where
  pub was : List ℕ
  pub due : List ℕ
  pub is : Due broken.number was due
  pub front : List ℕ
  pub rest : List ℕ
  pub stands : appended mid (bytes_of whole) ≡ appended (appended base was) front
  pub due_is : due ≡ front ++ (broken.bytes ++ rest)

-- All of these bytes are written after a base or buffered. Each piece since the last flush is a part of an event's
-- output.
pub record Buffers (Due : ℕ → List ℕ → List ℕ → Type 0) (base : Option (List ℕ)) (all : List ℕ)
    (held : Option (List ℕ)) (buffered : List Piece) : Type 0 where
  pub mid : Option (List ℕ)
  pub pieces : List Piece
  pub out : AreOut mid pieces held buffered
  pub all_are : appended mid (bytes_of pieces) ≡ appended base all
  pub parts : (whole : List Piece) (broken : Piece) (later : List Piece) → pieces ≡ whole ++ broken ∷ later
      → IsPart Due base mid whole broken

-- a part of an event's output was written, and all output before it
pub record BreaksDue (Due : ℕ → List ℕ → List ℕ → Type 0) (base now : Option (List ℕ)) (lacking : ℕ) : Type 0 where
  pub was : List ℕ
  pub due : List ℕ
  pub is : Due lacking was due
  pub held : AppendsPart (appended base was) now due

-- ---- the buffer is empty

no_pieces : (whole : List Piece) (broken : Piece) (later : List Piece) → [] ≡ whole ++ broken ∷ later → ⊥
no_pieces [] broken later is = cc
no_pieces (p ∷ whole) broken later is = cc

pub buffers_none : (Due : ℕ → List ℕ → List ℕ → Type 0) (base : Option (List ℕ)) (all : List ℕ)
    (held : Option (List ℕ)) → held ≡ appended base all → Buffers Due base all held []
buffers_none Due base all held is = record {
  mid = held;
  pieces = [];
  out = none_buffered held held [] (sym (appended-nil held));
  all_are = appended-nil held ∙ is;
  parts = λ whole broken later none. absurd (no_pieces whole broken later none);
}

breaks_at : (Due : ℕ → List ℕ → List ℕ → Type 0) (base mid now : Option (List ℕ)) (lacking : ℕ) (whole : List Piece)
    (broken : Piece) (part : IsPart Due base mid whole broken) → lacking ≡ broken.number
    → AppendsPart (appended mid (bytes_of whole)) now broken.bytes → BreaksDue Due base now lacking
breaks_at Due base mid now lacking whole broken part at stands =
    let P : ℕ → Type 0 = λ n. Due n part.was part.due in
    let Q : List ℕ → Type 0 = λ bs. AppendsPart (appended base part.was) now bs in
    record {
      was = part.was;
      due = part.due;
      is = subst P (sym at) part.is;
      held = subst Q (sym part.due_is)
          (part_after (appended base part.was) (appended mid (bytes_of whole)) now part.front broken.bytes part.rest
          part.stands stands);
    }

-- ---- the buffer is flushed

pub buffers_written : (Due : ℕ → List ℕ → List ℕ → Type 0) (base : Option (List ℕ)) (all : List ℕ)
    (held now : Option (List ℕ)) (buffered : List Piece) → Buffers Due base all held buffered
    → IsWritten held now buffered → now ≡ appended base all
buffers_written Due base all held now buffered so_far written =
    written.stands so_far.mid so_far.pieces so_far.out ∙ so_far.all_are

pub buffers_off : (Due : ℕ → List ℕ → List ℕ → Type 0) (base : Option (List ℕ)) (all : List ℕ)
    (held now : Option (List ℕ)) (buffered : List Piece) (lacking : ℕ) → Buffers Due base all held buffered
    → BreaksWriting held now buffered lacking → BreaksDue Due base now lacking
buffers_off Due base all held now buffered lacking so_far breaks =
    let off = breaks.off so_far.mid so_far.pieces so_far.out in
    breaks_at Due base so_far.mid now lacking off.whole off.broken
    (so_far.parts off.whole off.broken off.later off.are) off.number_is off.stands

-- the same with a weaker relation of events and their output
pub buffers_more : (Due More : ℕ → List ℕ → List ℕ → Type 0) (base : Option (List ℕ)) (all : List ℕ)
    (held : Option (List ℕ)) (buffered : List Piece)
    → ((number : ℕ) (was due : List ℕ) → Due number was due → More number was due)
    → Buffers Due base all held buffered → Buffers More base all held buffered
buffers_more Due More base all held buffered keeps so_far = record {
  mid = so_far.mid;
  pieces = so_far.pieces;
  out = so_far.out;
  all_are = so_far.all_are;
  parts = λ whole broken later is.
      let part = so_far.parts whole broken later is in
      record {
        was = part.was;
        due = part.due;
        is = keeps broken.number part.was part.due part.is;
        front = part.front;
        rest = part.rest;
        stands = part.stands;
        due_is = part.due_is;
      };
}

-- ---- two lists of pieces

split_pieces : (ps qs whole : List Piece) (broken : Piece) (later : List Piece) → ps ++ qs ≡ whole ++ broken ∷ later
    → ((rest : List Piece) × (ps ≡ whole ++ broken ∷ rest))
    ⊎ ((front : List Piece) × (whole ≡ ps ++ front) × (qs ≡ front ++ broken ∷ later))
split_pieces [] qs whole broken later is = inr (whole, refl, is)
split_pieces (p ∷ ps) qs [] broken later is = inl (ps, cc)
split_pieces (p ∷ ps) qs (w ∷ whole) broken later is =
    let same : p ≡ w = cc in
    let rest : ps ++ qs ≡ whole ++ broken ∷ later = cc in
    elim (split_pieces ps qs whole broken later rest) [
      | inl first ↦ let e = first.1 in inl (first.0, cc)
      | inr last ↦ let e = last.1 in inr (last.0, cc, last.2)
    ]

number_at : (number : ℕ) (ps front : List Piece) (broken : Piece) (later : List Piece) → AreNumbered number ps
    → ps ≡ front ++ broken ∷ later → broken.number ≡ number
number_at number ps [] broken later are is =
    let P : List Piece → Type 0 = λ all. AreNumbered number all in (subst P is are).0
number_at number [] (f ∷ front) broken later are is = absurd cc
number_at number (p ∷ ps) (f ∷ front) broken later are is =
    let rest : ps ≡ front ++ broken ∷ later = cc in number_at number ps front broken later are.1 rest

-- ---- the output of one more event

module _ (Due More : ℕ → List ℕ → List ℕ → Type 0) (base : Option (List ℕ)) (all : List ℕ) (held : Option (List ℕ))
    (buffered : List Piece) (so_far : Buffers Due base all held buffered)
    (keeps : (number : ℕ) (was due : List ℕ) → Due number was due → More number was due)
    (number : ℕ) (due : List ℕ) (here : More number all due) where
  part_before : (whole : List Piece) (broken : Piece) → IsPart Due base so_far.mid whole broken
      → IsPart More base so_far.mid whole broken
  part_before whole broken part = record {
    was = part.was;
    due = part.due;
    is = keeps broken.number part.was part.due part.is;
    front = part.front;
    rest = part.rest;
    stands = part.stands;
    due_is = part.due_is;
  }

  part_here : (parts whole front : List Piece) (broken : Piece) (later : List Piece) → ArePieces number due parts
      → whole ≡ so_far.pieces ++ front → parts ≡ front ++ broken ∷ later → IsPart More base so_far.mid whole broken
  part_here parts whole front broken later are after is =
      let at : broken.number ≡ number = number_at number parts front broken later are.numbers is in
      let P : ℕ → Type 0 = λ n. More n all due in
      record {
        was = all;
        due = due;
        is = subst P (sym at) here;
        front = bytes_of front;
        rest = bytes_of later;
        stands = ap (λ ps. appended so_far.mid (bytes_of ps)) after
            ∙ ap (appended so_far.mid) (bytes_append so_far.pieces front)
            ∙ sym (appended-appended so_far.mid (bytes_of so_far.pieces) (bytes_of front))
            ∙ ap (λ h. appended h (bytes_of front)) so_far.all_are;
        due_is = sym are.bytes_are ∙ ap bytes_of is ∙ bytes_append front (broken ∷ later);
      }

  parts_on : (parts : List Piece) → ArePieces number due parts → (whole : List Piece) (broken : Piece)
      (later : List Piece) → so_far.pieces ++ parts ≡ whole ++ broken ∷ later → IsPart More base so_far.mid whole broken
  parts_on parts are whole broken later is = elim (split_pieces so_far.pieces parts whole broken later is) [
    | inl first ↦ part_before whole broken (so_far.parts whole broken first.0 first.1)
    | inr last ↦ part_here parts whole last.0 broken later are last.1 last.2
  ]

  pub buffers_on : (now : Option (List ℕ)) (new : List Piece)
      → IsPut (piece number due) (holding held buffered) (holding now new)
      → Buffers More base (all ++ due) now new
  buffers_on now new put = record {
    mid = so_far.mid;
    pieces = so_far.pieces ++ put.parts;
    out = put.out so_far.mid so_far.pieces so_far.out;
    all_are = ap (appended so_far.mid) (bytes_append so_far.pieces put.parts)
        ∙ sym (appended-appended so_far.mid (bytes_of so_far.pieces) (bytes_of put.parts))
        ∙ ap (λ h. appended h (bytes_of put.parts)) so_far.all_are
        ∙ appended-appended base all (bytes_of put.parts)
        ∙ ap (λ bs. appended base (all ++ bs)) put.are.bytes_are;
    parts = parts_on put.parts put.are;
  }

  -- the output could not be put
  pub breaks_put : (now : Option (List ℕ)) (lacking : ℕ)
      → BreaksPut (piece number due) (holding held buffered) now lacking
      → BreaksDue More base now lacking
  breaks_put now lacking put =
      let off = put.off so_far.mid so_far.pieces so_far.out in
      let part = parts_on put.parts put.are off.whole off.broken off.later off.are in
      breaks_at More base so_far.mid now lacking off.whole off.broken part off.number_is off.stands
