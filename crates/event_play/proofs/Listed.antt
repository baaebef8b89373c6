-- Lines of notes of words that are played as one block, one event per word.
use Rattle.std.proofs.Common.{◌≡◌, ◌==◌, ℕ, ◌+◌, List, [], ◌∷◌, ◌++◌, not, flat_map, map, Option, Some}
use Rattle.std.proofs.Common.{None, Result, Ok, Err, OnOk, IfErr, inl, inr, option_to_list, refl, ap, sym, ◌∙◌, subst}
use Rattle.std.proofs.Common.{append_assoc, append-nil, arith}
use Rattle.std.proofs.lemmas.Bool.{cases_Bool}
use Rattle.std.proofs.lemmas.Grind.{flat_map-append}
use Rattle.std.proofs.lemmas.List.{map-append}
use Rattle.std.proofs.lemmas.List.Elements.{filter-append}
use Rattle.gathered_out.specs.Pieces.{AreOut, BreaksOff, Piece, piece}
use Rattle.gathered_out.specs.Puts.{ArePieces, BreaksWriting, Holding, IsPut, holding}
use Rattle.gathered_out.proofs.Buffers.{Buffers, buffers_on}
use Rattle.gp0_packets.specs.declared.note.Note.{Note}
use Rattle.gp0_words.specs.declared.item.Item.{Item}
use Rattle.gp1_status.specs.Registers.{Registers}
use Rattle.gpu_capture.specs.Words.{word_events}
use Rattle.gpu_capture.specs.declared.event.Event.{Event}
use Rattle.gpu_capture.specs.declared.event.Event.TheVariants.{Gp0}
use Rattle.gpu_core.specs.Area.{note_of}
use Rattle.gpu_core.specs.Feeds.{but_pixels, feed_notes}
use Rattle.gpu_core.specs.Machine.{State, after_gp0, gp0_note, new_item, noted}
use Rattle.gpu_capture.specs.Reading.{AreNeeded}
use Rattle.packet_text.specs.Line.{listed, note_line}
use Rattle.event_play.specs.Feeding.{fed_lines}
use Rattle.event_play.specs.Listing.{ArePut, PutsPieces, listed_pieces}
use Rattle.event_play.specs.Out.{lines_of}
use Rattle.event_play.specs.PlayedWords.{after_word, after_words, word_notes}
use Rattle.event_play.specs.Playing.{Follows, reads}
use Rattle.event_play.specs.Replay.{Replay, Script, next_number}
use Rattle.event_play.specs.declared.ending.Mode.TheVariants.{List as Listing}
use Rattle.event_play.proofs.AtOnce.{same_numbers, word_is}
use Rattle.event_play.proofs.Feeds.{word_lines}
use Rattle.event_loop.proofs.Blocks.{needed_more}
use Rattle.event_play.proofs.Following.{follows_on}
use Rattle.event_play.proofs.Lacking.{WasDue, due_here, due_on}

-- ---- notes

pub word_notes-append : (t : Replay) (xs ys : List ℕ)
    → word_notes t (xs ++ ys) ≡ word_notes t xs ++ word_notes (after_words t xs) ys
word_notes-append t [] ys = refl
word_notes-append t (x ∷ xs) ys =
    let one = option_to_list (gp0_note t.state.gpu (next_number t.played) x) in
    ap (λ notes. one ++ notes) (word_notes-append (after_word t x) xs ys)
    ∙ sym (append_assoc one (word_notes (after_word t x) xs) (word_notes (after_words (after_word t x) xs) ys))

-- These are the notes that the GPU returns.
pub notes_fed : (t : Replay) (words : List ℕ) → word_notes t words ≡ feed_notes t.state.gpu (t.played + 1) words
notes_fed t [] = refl
notes_fed t (word ∷ words) =
    let n = next_number t.played in
    ap (λ notes. option_to_list (gp0_note t.state.gpu n word) ++ notes)
    (notes_fed (after_word t word) words
    ∙ same_numbers (after_gp0 t.state.gpu word) (n + 1) (t.played + 1 + 1) words (omega arith))

pub listed_pieces-append : (xs ys : List Note) → listed_pieces (xs ++ ys) ≡ listed_pieces xs ++ listed_pieces ys
listed_pieces-append xs ys =
    let line : Note → Piece = λ note. piece note.event (note_line note) in
    ap (map line) (filter-append (λ (note : Note). not (note.class == 9)) xs ys)
    ∙ map-append line (but_pixels xs) (but_pixels ys)

-- ---- pieces that are added

-- These were added, and then others were added or could not be written.
pub put_on : {Value : Type 0} (before mid now : Holding) (ps qs : List Piece) (result : Result Value ℕ)
    → ArePut ps before mid → PutsPieces qs mid now result → PutsPieces (ps ++ qs) before now result
put_on {Value = Value} before mid now ps qs result first then = record {
  ok = ok result then.ok;
  failed = failed result then.failed;
}
  where
    both : (base : Option (List ℕ)) (all : List Piece) → AreOut base all before.held (before.buffered ++ (ps ++ qs))
        → AreOut base all mid.held (mid.buffered ++ qs)
    both base all out =
        let some = out.written ++ (before.buffered ++ ps) in
        let at = first.out base some (record { written = out.written; are = refl; stands = out.stands }) in
        record {
          written = at.written;
          are = out.are ∙ ap (λ ps. out.written ++ ps) (sym (append_assoc before.buffered ps qs))
              ∙ sym (append_assoc out.written (before.buffered ++ ps) qs)
              ∙ ap (λ ps. ps ++ qs) at.are ∙ append_assoc at.written mid.buffered qs;
          stands = at.stands;
        }

    ok : (result : Result Value ℕ) → OnOk result (ArePut qs mid now) → OnOk result (ArePut (ps ++ qs) before now)
    ok (Ok v) put = record { out = λ base all out. put.out base all (both base all out) }
    ok (Err lacking) put = tt

    failed : (result : Result Value ℕ) → IfErr result (BreaksWriting mid.held now.held (mid.buffered ++ qs))
        → IfErr result (BreaksWriting before.held now.held (before.buffered ++ (ps ++ qs)))
    failed (Ok v) breaks = tt
    failed (Err lacking) breaks = record { off = λ base all out. breaks.off base all (both base all out) }

-- none were added
pub none_put : (at : Holding) → ArePut [] at at
none_put at = record { out = λ base all out. rw (append-nil at.buffered) at out }

-- If writing breaks off among some pieces, it breaks off among more pieces.
pub breaks_more : (before now : Option (List ℕ)) (ps qs : List Piece) (lacking : ℕ)
    → BreaksWriting before now ps lacking → BreaksWriting before now (ps ++ qs) lacking
breaks_more before now ps qs lacking breaks = record {
  off = λ base all out.
      let off = breaks.off base (out.written ++ ps)
      (record { written = out.written; are = refl; stands = out.stands }) in
      record {
        whole = off.whole;
        broken = off.broken;
        later = off.later ++ qs;
        are = out.are ∙ sym (append_assoc out.written ps qs) ∙ ap (λ ps. ps ++ qs) off.are
            ∙ append_assoc off.whole (off.broken ∷ off.later) qs;
        number_is = off.number_is;
        stands = off.stands;
      };
}

-- one piece was added, as the call that adds it states
pub put_piece : {Value : Type 0} (p : Piece) (before now : Holding) (result : Result Value ℕ)
    → ((base : Option (List ℕ)) (all : List Piece) → AreOut base all before.held before.buffered
    → OnOk result (AreOut base (all ++ p ∷ []) now.held now.buffered))
    → ((base : Option (List ℕ)) (all : List Piece) → AreOut base all before.held before.buffered
    → IfErr result (BreaksOff all base now.held))
    → PutsPieces (p ∷ []) before now result
put_piece p before now (Ok v) ok failed = record {
  ok = record {
    out = λ base all out.
        let some = out.written ++ before.buffered in
        let P : List Piece → Type 0 = λ all. AreOut base all now.held now.buffered in
        subst P (append_assoc out.written before.buffered (p ∷ []) ∙ sym out.are)
        (ok base some (record { written = out.written; are = refl; stands = out.stands }));
  };
  failed = tt;
}
put_piece p before now (Err lacking) ok failed = record {
  ok = tt;
  failed = breaks_more before.held now.held before.buffered (p ∷ []) lacking
      (record { off = λ base all out. failed base all out });
}

-- ---- words, and the first of those after them

-- the pieces of the first words and of the note of the others are those of all words
pub pieces_on : (t : Replay) (xs ys all : List ℕ) (given : Option Note) → xs ++ ys ≡ all
    → but_pixels (word_notes (after_words t xs) ys) ≡ but_pixels (option_to_list given)
    → listed_pieces (word_notes t xs) ++ listed_pieces (option_to_list given) ≡ listed_pieces (word_notes t all)
pieces_on t xs ys all given both gives =
    let line : Note → Piece = λ note. piece note.event (note_line note) in
    let ps = listed_pieces (word_notes t xs) in
    ap (λ (notes : List Note). ps ++ map line notes) (sym gives)
    ∙ sym (listed_pieces-append (word_notes t xs) (word_notes (after_words t xs) ys))
    ∙ ap listed_pieces (sym (word_notes-append t xs ys)) ∙ ap (λ words. listed_pieces (word_notes t words)) both

-- If writing breaks off among the pieces of the first words, it breaks off among those of all.
pub fails_on : {Value : Type 0} (before now : Holding) (t : Replay) (xs ys all : List ℕ) (lacking : ℕ) → xs ++ ys ≡ all
    → PutsPieces {Value = Value} (listed_pieces (word_notes t xs)) before now (Err lacking)
    → PutsPieces {Value = Value} (listed_pieces (word_notes t all)) before now (Err lacking)
fails_on before now t xs ys all lacking both fails =
    let more = word_notes (after_words t xs) ys in
    let is : listed_pieces (word_notes t xs) ++ listed_pieces more ≡ listed_pieces (word_notes t all) =
    sym (listed_pieces-append (word_notes t xs) more) ∙ ap listed_pieces (sym (word_notes-append t xs ys))
    ∙ ap (λ words. listed_pieces (word_notes t words)) both in
    let P : List Piece → Type 0 = λ ps. BreaksWriting before.held now.held (before.buffered ++ ps) lacking in
    let Q : List Piece → Type 0 = λ ps. BreaksWriting before.held now.held ps lacking in
    record {
      ok = tt;
      failed = subst P is
          (subst Q (append_assoc before.buffered (listed_pieces (word_notes t xs)) (listed_pieces more))
          (breaks_more before.held now.held (before.buffered ++ listed_pieces (word_notes t xs)) (listed_pieces more)
          lacking fails.failed));
    }

-- ---- the pieces of a word

-- the line of a note is a piece of its event
one_piece : (note : Note) → ArePieces note.event (flat_map listed (note ∷ [])) (listed_pieces (note ∷ []))
one_piece note = elim (cases_Bool (note.class == 9)) [
  | inl is ↦ rw is (record { numbers = tt; bytes_are = refl })
  | inr other ↦ rw other (record { numbers = (refl, tt); bytes_are = refl })
]

item_pieces : (r : Registers) (event : ℕ) (item : Option Item)
    → ArePieces event (flat_map listed (option_to_list (noted r event item)))
    (listed_pieces (option_to_list (noted r event item)))
item_pieces r event None = record { numbers = tt; bytes_are = refl }
item_pieces r event (Some item) = one_piece (note_of r event item)

word_pieces : (s : State) (event word : ℕ) → ArePieces event (flat_map listed (option_to_list (gp0_note s event word)))
    (listed_pieces (option_to_list (gp0_note s event word)))
unfolding gp0_note
word_pieces s event word = item_pieces s.parts.regs event (new_item s.words word)

-- the line of its note is one of its event
pub line_pieces : (s : State) (event word : ℕ) (note : Option Note) → gp0_note s event word ≡ note
    → ArePieces event (fed_lines (Some Listing) s event (word ∷ [])) (listed_pieces (option_to_list note))
line_pieces s event word note noted =
    rw (← word_lines s event word note noted, ← noted) (word_pieces s event word)

-- Pieces that were added to the buffer count as put.
put_buffered : (number : ℕ) (bytes : List ℕ) (held : Option (List ℕ)) (buffered parts : List Piece)
    → ArePieces number bytes parts
    → IsPut (piece number bytes) (holding held buffered) (holding held (buffered ++ parts))
put_buffered number bytes held buffered parts are = record {
  parts = parts;
  are = are;
  out = λ base pieces out. record {
    written = out.written;
    are = ap (λ ps. ps ++ parts) out.are ∙ append_assoc out.written buffered parts;
    stands = out.stands;
  };
}

-- The line of a word that was just read is buffered after the output so far.
pub word_buffered : (script : List ℕ → Script) (first t : Replay) (events : List Event) (word : ℕ)
    (flushed after taken : List ℕ) (base held : Option (List ℕ)) (buffered : List Piece)
    → ((rest : List ℕ) → (script (taken ++ rest)).first ≡ first) → Follows first events t → taken ≡ flushed ++ after
    → AreNeeded (reads script) (events ++ Gp0 word ∷ []) taken
    → Buffers (WasDue Listing script events flushed taken) base (lines_of Listing t) held buffered
    → Buffers (WasDue Listing script (events ++ Gp0 word ∷ []) flushed taken) base
    (lines_of Listing (after_word t word)) held (buffered ++ listed_pieces (word_notes t (word ∷ [])))
word_buffered script first t events word flushed after taken base held buffered begins follows taken_is needed so_far =
    let n = next_number t.played in
    let note = option_to_list (gp0_note t.state.gpu n word) in
    let due = flat_map listed note in
    let ps = listed_pieces note in
    let lines = flat_map-append listed t.notes note in
    let one = buffers_on (WasDue Listing script events flushed taken)
    (WasDue Listing script (events ++ Gp0 word ∷ []) flushed taken) base (lines_of Listing t) held buffered so_far
    (due_on Listing script events (Gp0 word ∷ []) flushed taken) n due
    (due_here Listing script first t (after_word t word) events (Gp0 word) flushed after taken due begins follows
    taken_is needed (word_is t word) lines)
    held (buffered ++ ps)
    (put_buffered n due held buffered ps (word_pieces t.state.gpu n word)) in
    let P : List ℕ → Type 0 = λ all.
    Buffers (WasDue Listing script (events ++ Gp0 word ∷ []) flushed taken) base all held (buffered ++ ps) in
    rw (append-nil note) (subst P (sym lines) one)

-- ---- words after what was buffered so far

module _ (script : List ℕ → Script) (first : Replay) (flushed after further taken : List ℕ)
    (base held : Option (List ℕ))
    (begins : (rest : List ℕ) → (script (taken ++ rest)).first ≡ first)
    (taken_is : taken ≡ (flushed ++ after) ++ further) where
  -- The events before a word need no byte of the words.
  word_due : (t : Replay) (events : List Event) (word : ℕ) → Follows first events t
      → AreNeeded (reads script) events (flushed ++ after)
      → WasDue Listing script (events ++ Gp0 word ∷ []) flushed taken (next_number t.played) (lines_of Listing t)
      (flat_map listed (option_to_list (gp0_note t.state.gpu (next_number t.played) word)))
  word_due t events word follows needed = record {
    first = first;
    begins = begins;
    earlier = events;
    event = Gp0 word;
    later = [];
    are = refl;
    replay = t;
    follows = follows;
    next = after_word t word;
    next_is = word_is t word;
    number_is = refl;
    was_is = refl;
    due_is = flat_map-append listed t.notes (option_to_list (gp0_note t.state.gpu (next_number t.played) word));
    between = after;
    rest = further;
    taken_is = taken_is;
    needed = needed_more (reads script) events (Gp0 word ∷ []) (flushed ++ after) needed;
  }

  pub words_buffered : (words : List ℕ) (t : Replay) (events : List Event) (buffered : List Piece)
      → Follows first events t
      → AreNeeded (reads script) events (flushed ++ after)
      → Buffers (WasDue Listing script events flushed taken) base (lines_of Listing t) held buffered
      → Buffers (WasDue Listing script (events ++ word_events words) flushed taken) base
      (lines_of Listing (after_words t words)) held (buffered ++ listed_pieces (word_notes t words))
  words_buffered [] t events buffered follows needed so_far = rw (append-nil events, append-nil buffered) so_far
  words_buffered (word ∷ words) t events buffered follows needed so_far =
      let n = next_number t.played in
      let note = option_to_list (gp0_note t.state.gpu n word) in
      let due = flat_map listed note in
      let ps = listed_pieces note in
      let more = word_notes (after_word t word) words in
      let one = buffers_on (WasDue Listing script events flushed taken)
      (WasDue Listing script (events ++ Gp0 word ∷ []) flushed taken) base (lines_of Listing t) held buffered so_far
      (due_on Listing script events (Gp0 word ∷ []) flushed taken) n due (word_due t events word follows needed)
      held (buffered ++ ps)
      (put_buffered n due held buffered ps (word_pieces t.state.gpu n word)) in
      let P : List ℕ → Type 0 = λ all.
      Buffers (WasDue Listing script (events ++ Gp0 word ∷ []) flushed taken) base all held (buffered ++ ps) in
      let next = words_buffered words (after_word t word) (events ++ Gp0 word ∷ []) (buffered ++ ps)
      (follows_on first t (after_word t word) events (Gp0 word) follows (word_is t word))
      (needed_more (reads script) events (Gp0 word ∷ []) (flushed ++ after) needed)
      (subst P (sym (flat_map-append listed t.notes note)) one) in
      let Q : List Event → List Piece → Type 0 = λ all pieces. Buffers (WasDue Listing script all flushed taken) base
      (lines_of Listing (after_words t (word ∷ words))) held pieces in
      let pieces : (buffered ++ ps) ++ listed_pieces more ≡ buffered ++ listed_pieces (note ++ more) =
      append_assoc buffered ps (listed_pieces more)
      ∙ ap (λ ps. buffered ++ ps) (sym (listed_pieces-append note more)) in
      subst (λ pieces. Q (events ++ word_events (word ∷ words)) pieces) pieces
      (subst (λ all. Q all ((buffered ++ ps) ++ listed_pieces more))
      (append_assoc events (Gp0 word ∷ []) (word_events words)) next)
