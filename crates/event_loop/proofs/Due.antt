-- The output of events, one after another.
use Rattle.std.proofs.Common.{◌≡◌, ◌++◌, ℕ, List, [], ◌∷◌, Option, refl, ap, sym, ◌∙◌, append_assoc, append-nil, subst}
use Rattle.std.proofs.Common.{inl, inr}
use Rattle.gathered_out.specs.Pieces.{Piece, bytes_of}
use Rattle.gathered_out.specs.Puts.{Holding}
use Rattle.gathered_out.proofs.Buffers.{BreaksDue, Buffers, breaks_put, buffers_off, buffers_on}
use Rattle.gathered_out.proofs.Pieces.{bytes_append}
use Rattle.gpu_capture.specs.declared.event.Event.{Event}
use Rattle.event_loop.specs.Due.{Dues, pieces, pieces_after}
use Rattle.event_loop.specs.Puts.{ArePut, BreakPut}

-- the output of more events
pub after_on : (due : Dues) (before events more : List Event) → pieces_after due before (events ++ more)
    ≡ pieces_after due before events ++ pieces_after due (before ++ events) more
after_on due before [] more = ap (λ (all : List Event). pieces_after due all more) (sym (append-nil before))
after_on due before (e ∷ events) more =
    ap (λ (ps : List Piece). due before e ++ ps) (after_on due (before ++ e ∷ []) events more)
    ∙ sym (append_assoc (due before e) (pieces_after due (before ++ e ∷ []) events)
    (pieces_after due ((before ++ e ∷ []) ++ events) more))
    ∙ ap (λ (all : List Event). pieces_after due before (e ∷ events) ++ pieces_after due all more)
    (append_assoc before (e ∷ []) events)

-- the output of one more event
pub pieces_on : (due : Dues) (events : List Event) (e : Event)
    → pieces due (events ++ e ∷ []) ≡ pieces due events ++ due events e
pieces_on due events e = after_on due [] events (e ∷ [])
    ∙ ap (λ (ps : List Piece). pieces due events ++ ps) (append-nil (due events e))

pub bytes_on : (due : Dues) (events : List Event) (e : Event)
    → bytes_of (pieces due (events ++ e ∷ [])) ≡ bytes_of (pieces due events) ++ bytes_of (due events e)
bytes_on due events e = ap bytes_of (pieces_on due events e) ∙ bytes_append (pieces due events) (due events e)

-- ---- pieces that are put, one after another

-- `D` holds of each of these pieces and the bytes before it
abbrev pub AreDue : (ℕ → List ℕ → List ℕ → Type 0) → (all : List ℕ) → List Piece → Type 0
AreDue D all ps = (front : List Piece) (p : Piece) (back : List Piece) → ps ≡ front ++ p ∷ back
    → D p.number (all ++ bytes_of front) p.bytes

module _ (D : ℕ → List ℕ → List ℕ → Type 0) (base : Option (List ℕ)) where
  are_due_after : (all : List ℕ) (p : Piece) (ps : List Piece) → AreDue D all (p ∷ ps) → AreDue D (all ++ p.bytes) ps
  are_due_after all p ps are front q back is =
      let P : List ℕ → Type 0 = λ bs. D q.number bs q.bytes in
      subst P (sym (append_assoc all p.bytes (bytes_of front)))
      (are (p ∷ front) q back (ap (λ (qs : List Piece). p ∷ qs) is))

  is_due_first : (all : List ℕ) (p : Piece) (ps : List Piece) → AreDue D all (p ∷ ps) → D p.number all p.bytes
  is_due_first all p ps are =
      let P : List ℕ → Type 0 = λ bs. D p.number bs p.bytes in
      subst P (append-nil all) (are [] p ps refl)

  pub buffers_all : (ps : List Piece) (all : List ℕ) (before now : Holding) → AreDue D all ps
      → Buffers D base all before.held before.buffered → ArePut ps before now
      → Buffers D base (all ++ bytes_of ps) now.held now.buffered
  buffers_all [] all before now are so_far put =
      let Q : List ℕ → Type 0 = λ bs. Buffers D base bs now.held now.buffered in
      subst Q (sym (append-nil all))
      (record {
        mid = so_far.mid;
        pieces = so_far.pieces;
        out = put so_far.mid so_far.pieces so_far.out;
        all_are = so_far.all_are;
        parts = so_far.parts;
      })
  buffers_all (p ∷ ps) all before now are so_far (mid, first, later) =
      let P : List ℕ → Type 0 = λ bs. Buffers D base bs now.held now.buffered in
      subst P (append_assoc all p.bytes (bytes_of ps))
      (buffers_all ps (all ++ p.bytes) mid now (are_due_after all p ps are)
      (buffers_on D D base all before.held before.buffered so_far (λ number was due is. is) p.number p.bytes
      (is_due_first all p ps are) mid.held mid.buffered first) later)

  pub breaks_all : (ps : List Piece) (all : List ℕ) (before : Holding) (now : Option (List ℕ)) (lacking : ℕ)
      → AreDue D all ps → Buffers D base all before.held before.buffered → BreakPut ps before now lacking
      → BreaksDue D base now lacking
  breaks_all [] all before now lacking are so_far breaks =
      buffers_off D base all before.held now before.buffered lacking so_far breaks
  breaks_all (p ∷ ps) all before now lacking are so_far (inl breaks) =
      breaks_put D D base all before.held before.buffered so_far (λ number was due is. is) p.number p.bytes
      (is_due_first all p ps are) now lacking breaks
  breaks_all (p ∷ ps) all before now lacking are so_far (inr (mid, first, later)) =
      breaks_all ps (all ++ p.bytes) mid now lacking (are_due_after all p ps are)
      (buffers_on D D base all before.held before.buffered so_far (λ number was due is. is) p.number p.bytes
      (is_due_first all p ps are) mid.held mid.buffered first) later
