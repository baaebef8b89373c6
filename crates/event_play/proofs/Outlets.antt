-- Lines that an outlet puts.
use Rattle.std.proofs.Common.{◌≡◌, ◌++◌, ℕ, List, [], ◌∷◌, Option, Result, refl, ap, sym, ◌∙◌, append_assoc, append-nil}
use Rattle.std.proofs.lemmas.Result.{IfErr-weaker, on_ok_weaker}
use Rattle.dev_io.specs.Device.{appended}
use Rattle.dev_io.proofs.Appended.{appended-appended}
use Rattle.gathered_out.specs.Pieces.{AreOut, Piece, bytes_of, piece}
use Rattle.gathered_out.specs.Puts.{ArePieces, Holding, Puts, SinkState, holding}
use Rattle.gathered_out.proofs.Pieces.{bytes_append}
use Rattle.event_play.specs.Listing.{ArePut, PutsLines}

-- bytes that are written with an empty buffer
pub put_out : (p : Piece) (before now : Option (List ℕ)) → now ≡ appended before p.bytes
    → ArePut (p ∷ []) (holding before []) (holding now [])
put_out p before now wrote = record {
  out = λ base all out. record {
    written = all;
    are = sym (append-nil all);
    stands = wrote ∙ ap (λ h. appended h p.bytes) out.stands
        ∙ appended-appended base (bytes_of out.written) p.bytes
        ∙ ap (λ bs. appended base (bytes_of out.written ++ bs)) (sym (append-nil p.bytes))
        ∙ ap (appended base) (sym (bytes_append out.written (p ∷ [])))
        ∙ ap (λ ps. appended base (bytes_of ps)) (sym out.are);
  };
}

-- a line is a piece of its event
pub one_line : (number : ℕ) (bytes : List ℕ) → ArePieces number bytes (piece number bytes ∷ [])
one_line number bytes = record { numbers = (refl, tt); bytes_are = append-nil bytes }

-- more pieces are buffered after those that are
buffered_on : (at : Holding) (pieces : List Piece) (base : Option (List ℕ)) (all : List Piece)
    → AreOut base all at.held at.buffered → AreOut base (all ++ pieces) at.held (at.buffered ++ pieces)
buffered_on at pieces base all out = record {
  written = out.written;
  are = ap (λ ps. ps ++ pieces) out.are ∙ append_assoc out.written at.buffered pieces;
  stands = out.stands;
}

-- a call that puts the pieces of an event puts its bytes
pub puts_as : {Value : Type 0} (number : ℕ) (bytes : List ℕ) (pieces : List Piece) (before now : SinkState)
    (result : Result Value ℕ)
    → ArePieces number bytes pieces → PutsLines pieces before now result
    → Puts (piece number bytes) before now result
puts_as number bytes pieces before now result are put =
    let at : Holding = holding before.held before.buffered in
    record {
      ok = on_ok_weaker result
          (λ put. record {
            parts = pieces;
            are = are;
            out = λ base all out. put.out base (all ++ pieces) (buffered_on at pieces base all out);
          })
          put.puts.ok;
      failed = IfErr-weaker result _ _
          (λ lacking breaks. record {
            parts = pieces;
            are = are;
            off = λ base all out. breaks.off base (all ++ pieces) (buffered_on at pieces base all out);
          })
          put.puts.failed;
      cause = put.cause;
      faults = put.faults;
    }
