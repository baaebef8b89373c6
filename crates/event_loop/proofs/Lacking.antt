-- The first incomplete piece.
use Rattle.std.proofs.Common.{◌≡◌, ◌≤◌, ◌⊎◌, inl, inr, ◌+◌, ◌++◌, ℕ, List, [], ◌∷◌, Option, length, length-append, refl}
use Rattle.std.proofs.Common.{ap, sym, subst, ◌∙◌, append_assoc, append-nil, arith}
use Rattle.gathered_out.specs.Pieces.{Piece, bytes_of}
use Rattle.gathered_out.proofs.Buffers.{BreaksDue}
use Rattle.gathered_out.proofs.Pieces.{bytes_append}
use Rattle.gpu_capture.specs.Reading.{AreNeeded, SaysFirst}
use Rattle.gpu_capture.specs.declared.event.Event.{Event}
use Rattle.gpu_capture.specs.declared.event.Stop.{Stop}
use Rattle.event_loop.specs.Due.{pieces}
use Rattle.event_loop.specs.Ending.{Held, LacksClosing, LacksPiece, Matter, StopsAfter, Way}
use Rattle.event_loop.specs.Pausing.{most_after}
use Rattle.event_loop.proofs.Due.{AreDue}

-- the output of an event may be buffered; or it may also be put without any further byte taken
abbrev pub MayWait : (most : ℕ) → (rest : List ℕ) → Type 0
MayWait most rest = most_after ≤ most

abbrev pub MayLie : (most : ℕ) → (rest : List ℕ) → Type 0
MayLie most rest = (rest ≡ []) ⊎ (most_after ≤ most)

-- This is a piece of the output of one of these events, after the output of those before. `flushed` was taken at the
-- last flush, and `between` since then up to the event.
pub record WasDue (m : Matter) (May : ℕ → List ℕ → Type 0) (events : List Event) (flushed taken : List ℕ) (number : ℕ)
    (was due : List ℕ) : Type 0 where
  pub earlier : List Event
  pub event : Event
  pub later : List Event
  pub are : events ≡ earlier ++ event ∷ later
  pub front : List Piece
  pub lacking : Piece
  pub back : List Piece
  pub pieces_are : m.due earlier event ≡ front ++ lacking ∷ back
  pub number_is : number ≡ lacking.number
  pub due_is : due ≡ lacking.bytes
  pub was_is : was ≡ bytes_of (pieces m.due earlier ++ front)
  pub between : List ℕ
  pub rest : List ℕ
  pub taken_is : taken ≡ (flushed ++ between) ++ rest
  pub needed : AreNeeded m.read (earlier ++ event ∷ []) (flushed ++ between)
  pub may : May (m.most earlier event) rest
  pub known : m.knows earlier event

-- the same by more events and more bytes
pub due_more : (m : Matter) (events more all : List Event) (flushed taken further : List ℕ)
    → all ≡ events ++ more → (number : ℕ) (was due : List ℕ)
    → WasDue m MayWait events flushed taken number was due
    → WasDue m MayWait all flushed (taken ++ further) number was due
due_more m events more all flushed taken further all_are number was due is = record {
  earlier = is.earlier;
  event = is.event;
  later = is.later ++ more;
  are = all_are ∙ ap (λ (es : List Event). es ++ more) is.are
      ∙ append_assoc is.earlier (is.event ∷ is.later) more;
  front = is.front;
  lacking = is.lacking;
  back = is.back;
  pieces_are = is.pieces_are;
  number_is = is.number_is;
  due_is = is.due_is;
  was_is = is.was_is;
  between = is.between;
  rest = is.rest ++ further;
  taken_is = ap (λ bs. bs ++ further) is.taken_is ∙ append_assoc (flushed ++ is.between) is.rest further;
  needed = is.needed;
  may = is.may;
  known = is.known;
}

-- the same by the weaker bound
pub due_lies : (m : Matter) (events : List Event) (flushed taken : List ℕ) (number : ℕ) (was due : List ℕ)
    → WasDue m MayWait events flushed taken number was due → WasDue m MayLie events flushed taken number was due
due_lies m events flushed taken number was due is = record {
  earlier = is.earlier;
  event = is.event;
  later = is.later;
  are = is.are;
  front = is.front;
  lacking = is.lacking;
  back = is.back;
  pieces_are = is.pieces_are;
  number_is = is.number_is;
  due_is = is.due_is;
  was_is = is.was_is;
  between = is.between;
  rest = is.rest;
  taken_is = is.taken_is;
  needed = is.needed;
  may = inr is.may;
  known = is.known;
}

-- the same by more events and no more bytes
pub due_on : (m : Matter) (events more : List Event) (flushed taken : List ℕ) (number : ℕ) (was due : List ℕ)
    → WasDue m MayWait events flushed taken number was due
    → WasDue m MayWait (events ++ more) flushed taken number was due
due_on m events more flushed taken number was due is =
    let P : List ℕ → Type 0 = λ all. WasDue m MayWait (events ++ more) flushed all number was due in
    subst P (append-nil taken) (due_more m events more (events ++ more) flushed taken [] refl number was due is)

-- the output of the last event
pub due_here : (m : Matter) (May : ℕ → List ℕ → Type 0) (events : List Event) (event : Event)
    (flushed after taken : List ℕ) → taken ≡ flushed ++ after
    → AreNeeded m.read (events ++ event ∷ []) taken → May (m.most events event) []
    → m.knows events event
    → AreDue (WasDue m May (events ++ event ∷ []) flushed taken) (bytes_of (pieces m.due events))
    (m.due events event)
due_here m May events event flushed after taken taken_is needed may known front p back is = record {
  earlier = events;
  event = event;
  later = [];
  are = refl;
  front = front;
  lacking = p;
  back = back;
  pieces_are = is;
  number_is = refl;
  due_is = refl;
  was_is = sym (bytes_append (pieces m.due events) front);
  between = after;
  rest = [];
  taken_is = taken_is ∙ sym (append-nil (flushed ++ after));
  needed = rw (← taken_is) needed;
  may = may;
  known = known;
}

-- ---- what is incomplete

-- the number of bytes taken after the event
few_rest : (most : ℕ) (flushed between rest taken : List ℕ) → taken ≡ (flushed ++ between) ++ rest
    → length taken ≤ length flushed + most_after → MayLie most rest → length rest ≤ most
few_rest most flushed between rest taken taken_is few (inl none) =
    let e = ap length none in omega (arith, e)
few_rest most flushed between rest taken taken_is few (inr may) =
    let a = ap length taken_is in
    let b = length-append (flushed ++ between) rest in
    let d = length-append flushed between in
    omega (arith, a, b, d, few, may)

pub lacks_piece : (m : Matter) (way : Way) (flushed : List ℕ) (number : ℕ) (held : Held)
    → BreaksDue (WasDue m MayLie way.events flushed way.taken) held.base held.now number
    → SaysFirst m.read m.version way.taken way.events → length way.taken ≤ length flushed + most_after
    → LacksPiece m way number held
lacks_piece m way flushed number held breaks says few =
    let is = breaks.is in
    record {
      earlier = is.earlier;
      event = is.event;
      later = is.later;
      are = is.are;
      front = is.front;
      lacking = is.lacking;
      back = is.back;
      pieces_are = is.pieces_are;
      number_is = is.number_is;
      known = is.known;
      says = says;
      few = record {
        needed = flushed ++ is.between;
        later = is.rest;
        are = is.taken_is;
        are_needed = is.needed;
        few = few_rest (m.most is.earlier is.event) flushed is.between is.rest way.taken is.taken_is few is.may;
      };
      stands = rw (← is.was_is, ← is.due_is) breaks.held;
    }

-- ---- the output of a stop

-- this is a piece of the output of the stop, after all output before
pub record ClosesWith (all : List ℕ) (closing : List Piece) (number : ℕ) (was due : List ℕ) : Type 0 where
  pub front : List Piece
  pub lacking : Piece
  pub back : List Piece
  pub pieces_are : closing ≡ front ++ lacking ∷ back
  pub number_is : number ≡ lacking.number
  pub due_is : due ≡ lacking.bytes
  pub was_is : was ≡ all ++ bytes_of front

pub closes_here : (all : List ℕ) (closing : List Piece) → AreDue (ClosesWith all closing) all closing
closes_here all closing front p back is = record {
  front = front;
  lacking = p;
  back = back;
  pieces_are = is;
  number_is = refl;
  due_is = refl;
  was_is = refl;
}

unfoldable pub lacks_closing : (m : Matter) (way : Way) (stop : Stop) (number : ℕ) (held : Held)
    (left : Option (List ℕ))
    → BreaksDue (ClosesWith (bytes_of (pieces m.due way.events)) (m.closing way.events stop)) held.base held.now number
    → StopsAfter m way stop left → LacksClosing m way number held left
lacks_closing m way stop number held left breaks stops =
    let is = breaks.is in
    record {
      stop = stop;
      stops = stops;
      front = is.front;
      lacking = is.lacking;
      back = is.back;
      pieces_are = is.pieces_are;
      number_is = is.number_is;
      stands = rw (bytes_append (pieces m.due way.events) is.front, ← is.was_is, ← is.due_is) breaks.held;
    }
