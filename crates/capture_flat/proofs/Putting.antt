-- Records of words, added to the buffer one after another.
use Rattle.std.proofs.Common.{◌≡◌, ◌<◌, ◌+◌, ◌++◌, ℕ, List, [], ◌∷◌, Option, Result, Ok, Err, drop, length}
use Rattle.std.proofs.Common.{slice_index, ap, sym, ◌∙◌}
use Rattle.std.proofs.Common.{append_assoc, subst}
use Rattle.std.proofs.lemmas.List.{drop_more}
use Rattle.gathered_out.specs.Pieces.{AreOut, Piece, piece}
use Rattle.gathered_out.specs.Puts.{BreaksWriting, Holding}
use Rattle.gpu_capture.specs.Written.{spelled}
use Rattle.gpu_capture.specs.declared.event.Event.TheVariants.{Gp0}
use Rattle.event_play.specs.Listing.{ArePut, PutsPieces}
use Rattle.event_play.specs.Replay.{next_number}
use Rattle.event_play.proofs.Listed.{breaks_more, put_on, put_piece}
use Rattle.capture_flat.specs.Records.{record_pieces}

-- the records of the words: those already added, the next one, then the rest
pub pieces_on : (all done : List Piece) (number after : ℕ) (words : List ℕ) (i : ℕ) (bytes : List ℕ) → i < length words
    → after ≡ next_number number → bytes ≡ spelled (Gp0 (slice_index words i))
    → all ≡ done ++ record_pieces number (drop i words)
    → all ≡ (done ++ piece after bytes ∷ []) ++ record_pieces after (drop (i + 1) words)
pieces_on all done number after words i bytes lt at is are =
    rw (at, is)
    (are ∙ ap (λ left. done ++ record_pieces number left) (drop_more words i 0 lt)
    ∙ sym (append_assoc done (piece (next_number number) (spelled (Gp0 (slice_index words i))) ∷ [])
    (record_pieces (next_number number) (drop (i + 1) words))))

-- If writing fails among some pieces, it fails among a longer list that starts with them.
pub fails_more : {Value : Type 0} (before now : Holding) (ps qs all : List Piece) (lacking : ℕ) → all ≡ ps ++ qs
    → PutsPieces {Value = Value} ps before now (Err lacking) → PutsPieces {Value = Value} all before now (Err lacking)
fails_more before now ps qs all lacking are fails =
    let P : List Piece → Type 0 = λ all. BreaksWriting before.held now.held all lacking in
    record {
      ok = tt;
      failed = rw are
          (subst P (append_assoc before.buffered ps qs)
          (breaks_more before.held now.held (before.buffered ++ ps) qs lacking fails.failed));
    }

-- one more was added
pub put_more : (before mid now : Holding) (done : List Piece) (p : Piece) → ArePut done before mid
    → ((base : Option (List ℕ)) (all : List Piece) → AreOut base all mid.held mid.buffered
    → AreOut base (all ++ p ∷ []) now.held now.buffered)
    → ArePut (done ++ p ∷ []) before now
put_more before mid now done p was puts =
    let put : Result ℕ ℕ = Ok 0 in
    (put_on before mid now done (p ∷ []) put was (put_piece p mid now put puts (λ base all out. tt))).ok
