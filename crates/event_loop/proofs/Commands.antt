-- Lemmas for commands over the loop: single pieces of output, and what a new reader says.
use Rattle.std.proofs.Common.{◌≡◌, ◌++◌, ℕ, List, [], ◌∷◌, Option, Bool, cond, nat_lt, replicate, inl, refl, ap, sym}
use Rattle.std.proofs.Common.{subst}
use Rattle.std.proofs.Common.{◌∙◌, append-nil}
use Rattle.dev_io.specs.Device.{AppendsPart, appended}
use Rattle.dev_io.proofs.Appended.{appended-appended, appended-nil}
use Rattle.gathered_out.specs.Pieces.{AreOut, BreaksOff, Piece, bytes_of, piece}
use Rattle.gathered_out.specs.Puts.{Holding, holding}
use Rattle.gathered_out.proofs.Pieces.{all_out, breaks_more, bytes_append, none_buffered}
use Rattle.gpu_capture.specs.Capture.{Captured, capture, records, then_events}
use Rattle.gpu_capture.specs.Reader.{IsStart, capture_from}
use Rattle.gpu_capture.specs.Reading.{Reading, SaysFirst}
use Rattle.gpu_capture.specs.declared.event.Event.{Event}
use Rattle.gpu_capture.specs.declared.progress.Progress.{Progress}
use Rattle.gpu_capture.proofs.Needed.{then_both}
use Rattle.event_loop.specs.Puts.{ArePut, BreakPut}

-- ---- lists of pieces

-- the only piece
pub only : (p q : Piece) (front back : List Piece) → p ∷ [] ≡ front ++ q ∷ back → (front ≡ []) × (q ≡ p)
only p q [] back is = (refl, cc)
only p q (f ∷ []) back is = absurd cc
only p q (f ∷ g ∷ front) back is = absurd cc

pub no_piece : (q : Piece) (front back : List Piece) → [] ≡ front ++ q ∷ back → ⊥
no_piece q [] back is = cc
no_piece q (f ∷ front) back is = cc

-- ---- one piece that is put

module _ (n m : ℕ) (xs ys : List ℕ) (before : Holding) (same : n ≡ m) (is : xs ≡ ys) where
  pub put_is : (now : Holding)
      → ((base : Option (List ℕ)) (ps : List Piece) → AreOut base ps before.held before.buffered
      → AreOut base (ps ++ piece n xs ∷ []) now.held now.buffered) → ArePut (piece m ys ∷ []) before now
  put_is now out = rw (← same, ← is) (
    now,
    record {
      parts = piece n xs ∷ [];
      are = record { numbers = (refl, tt); bytes_are = append-nil xs };
      out = out;
    },
    λ base ps out. out,
  )

  pub break_is : (now : Option (List ℕ)) (lacking : ℕ)
      → ((base : Option (List ℕ)) (ps : List Piece) → AreOut base ps before.held before.buffered
      → BreaksOff ps base now lacking) → BreakPut (piece m ys ∷ []) before now lacking
  break_is now lacking off = rw (← same, ← is)
      (inl (record {
        parts = piece n xs ∷ [];
        are = record { numbers = (refl, tt); bytes_are = append-nil xs };
        off = λ base ps out. breaks_more base now ps (piece n xs ∷ []) lacking (off base ps out);
      }))

-- ---- one piece that is written at once, with nothing buffered

out_all : (base held : Option (List ℕ)) (ps : List Piece) → AreOut base ps held [] → held ≡ appended base (bytes_of ps)
out_all base held ps out = all_out base held held ps [] out (sym (appended-nil held))

pub whole_put : (number : ℕ) (bytes : List ℕ) (held now : Option (List ℕ)) → now ≡ appended held bytes
    → ArePut (piece number bytes ∷ []) (holding held []) (holding now [])
whole_put number bytes held now is =
    let p : Piece = piece number bytes in
    put_is number number bytes bytes (holding held []) refl refl (holding now [])
    (λ base ps out. none_buffered base now (ps ++ p ∷ [])
    (is ∙ ap (λ h. appended h bytes) (out_all base held ps out) ∙ appended-appended base (bytes_of ps) bytes
    ∙ ap (appended base) (sym (bytes_append ps (p ∷ []) ∙ ap (λ bs. bytes_of ps ++ bs) (append-nil bytes)))))

pub whole_breaks : (number : ℕ) (bytes : List ℕ) (held now : Option (List ℕ)) → AppendsPart held now bytes
    → BreakPut (piece number bytes ∷ []) (holding held []) now number
whole_breaks number bytes held now part =
    let p : Piece = piece number bytes in
    inl (record {
      parts = p ∷ [];
      are = record { numbers = (refl, tt); bytes_are = append-nil bytes };
      off = λ base ps out.
          let P : Option (List ℕ) → Type 0 = λ h. AppendsPart h now bytes in
          record {
            whole = ps;
            broken = p;
            later = [];
            are = refl;
            number_is = refl;
            stands = subst P (out_all base held ps out) part;
          };
    })

-- ---- what bytes say

-- a new reader reads a whole capture
pub reads_all : (p : Progress) → IsStart p → capture_from p ≡ capture
reads_all p start =
    let by : Bool → List ℕ → Captured = λ is bytes.
    cond is (then_events (replicate p.left p.repeated) (records p.version p.expected p.offset bytes)) (capture bytes) in
    ap by (ap (nat_lt 0) start.version)

-- bytes that say these events say the first of them
pub says_fewer : (read : Reading) (version : ℕ) (taken : List ℕ) (front back : List Event)
    → SaysFirst read version taken (front ++ back) → SaysFirst read version taken front
says_fewer read version taken front back says rest =
    let s = says rest in
    (then_events back s.0, s.1 ∙ sym (then_both front back s.0), s.2)
