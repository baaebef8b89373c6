-- Words that are taken at once, one event per word.
use Rattle.std.proofs.Common.{◌≡◌, ◌≤◌, ◌+◌, ◌*◌, ◌++◌, ℕ, List, [], ◌∷◌, Option, Result, Ok, Err, OnOk, IfErr, length}
use Rattle.std.proofs.Common.{length-append, refl, ap, sym, subst, ◌∙◌, append_assoc, append-nil, arith, inr}
use Rattle.gathered_out.specs.Pieces.{AreOut, Piece, bytes_of, piece}
use Rattle.gathered_out.specs.Puts.{BreaksWriting, Holding, IsPut, holding}
use Rattle.gathered_out.proofs.Pieces.{one_buffered}
use Rattle.gpu_capture.specs.Capture.{limit}
use Rattle.gpu_capture.specs.Words.{word_events}
use Rattle.gpu_capture.specs.Written.{AllowsAll, spelled}
use Rattle.gpu_capture.specs.declared.event.Event.{Event}
use Rattle.gpu_capture.specs.declared.event.Event.TheVariants.{Gp0}
use Rattle.event_loop.specs.Due.{pieces, pieces_after}
use Rattle.event_loop.specs.Pausing.{KnowsEach}
use Rattle.event_loop.specs.Puts.{ArePut, BreakPut}
use Rattle.event_loop.proofs.Due.{bytes_on}
use Rattle.event_play.specs.Listing.{PutsPieces}
use Rattle.event_play.specs.OwnWords.{Tells}
use Rattle.event_play.specs.PlayedWords.{after_word, after_words}
use Rattle.event_play.specs.Replay.{Replay, from_state, next_number}
use Rattle.event_play.specs.RigState.{Stands}
use Rattle.event_play.specs.Step.{Machine}
use Rattle.event_play.specs.Streams.{without_sink}
use Rattle.event_play.specs.Told.{told_notes}
use Rattle.capture_flat.specs.Out.{begun, due_at}
use Rattle.capture_flat.specs.Passing.{Follows}
use Rattle.capture_flat.specs.Records.{record_pieces}
use Rattle.capture_flat.specs.Taking.{FlatAt, FlatKnows, FlatStands, FlatStart, first_of, flat_due, replay_after}
use Rattle.capture_flat.proofs.Counts.{words_bytes}
use Rattle.event_play.proofs.Reaching.{heard_on}
use Rattle.capture_flat.proofs.Following.{all_flat}
use Rattle.capture_flat.proofs.Output.{written_length}
use Rattle.capture_flat.proofs.PlayedWords.{begun_word, more_cost, more_notes, same_played, same_state, word_due}
use Rattle.capture_flat.proofs.PlayedWords.{word_follows, words_follow, words_length, words_small}
use Rattle.capture_flat.proofs.Taking.{after_is}

-- ---- pieces that are put together are put one after another

is_buffered : (held : Option (List ℕ)) (buffered : List Piece) (p : Piece)
    → IsPut p (holding held buffered) (holding held (buffered ++ p ∷ []))
is_buffered held buffered p = record {
  parts = p ∷ [];
  are = record { numbers = (refl, tt); bytes_are = append-nil p.bytes };
  out = λ base ps out. one_buffered base held ps buffered p out;
}

each_put : (ps : List Piece) (held : Option (List ℕ)) (buffered : List Piece) (now : Holding)
    → ((base : Option (List ℕ)) (all : List Piece) → AreOut base all held (buffered ++ ps)
    → AreOut base all now.held now.buffered) → ArePut ps (holding held buffered) now
each_put [] held buffered now out = λ base all o. out base all (rw (append-nil buffered) o)
each_put (p ∷ ps) held buffered now out = (
  holding held (buffered ++ p ∷ []),
  is_buffered held buffered p,
  each_put ps held (buffered ++ p ∷ []) now
      (λ base all o. out base all (rw (append_assoc buffered (p ∷ []) ps) at o)),
)

each_breaks : (ps : List Piece) (held : Option (List ℕ)) (buffered : List Piece) (now : Option (List ℕ))
    (lacking : ℕ) → BreaksWriting held now (buffered ++ ps) lacking → BreakPut ps (holding held buffered) now lacking
each_breaks [] held buffered now lacking off = rw (append-nil buffered) at off
each_breaks (p ∷ ps) held buffered now lacking off = inr (
  holding held (buffered ++ p ∷ []),
  is_buffered held buffered p,
  each_breaks ps held (buffered ++ p ∷ []) now lacking (rw (append_assoc buffered (p ∷ []) ps) off),
)

-- ---- their records

module _ (start : FlatStart) (version : ℕ) where
  abbrev first : Replay
  first = first_of start version

  -- the output of a word is its record
  one_due : (t : Replay) (events flat : List Event) (word : ℕ) → Follows first events t flat → 1 ≤ t.played
      → flat_due start version events (Gp0 word) ≡ piece (next_number t.played) (spelled (Gp0 word)) ∷ []
  one_due t events flat word follows some =
      ap (λ (u : Replay). piece (next_number u.played) (due_at version u (Gp0 word)) ∷ [])
      (after_is start version events t flat follows)
      ∙ ap (λ (bs : List ℕ). piece (next_number t.played) bs ∷ [])
      (word_due version t word some ∙ append-nil (spelled (Gp0 word)))

  words_due : (words : List ℕ) (t : Replay) (events flat : List Event) → Follows first events t flat
      → AllowsAll 2 (word_events words) → 1 ≤ t.played
      → pieces_after (flat_due start version) events (word_events words) ≡ record_pieces t.played words
  words_due [] t events flat follows allows some = refl
  words_due (word ∷ words) t events flat follows allows some =
      ap (λ (ps : List Piece). ps ++ pieces_after (flat_due start version) (events ++ Gp0 word ∷ []) (word_events
      words)) (one_due t events flat word follows some)
      ∙ ap (λ (ps : List Piece). piece (next_number t.played) (spelled (Gp0 word)) ∷ ps)
      (words_due words (after_word t word) (events ++ Gp0 word ∷ []) (flat ++ Gp0 word ∷ [])
      (word_follows first t events flat word follows (allows.0, tt)) allows.1 (omega (arith, some)))

  -- the state after one of them
  one_written : (t : Replay) (events flat : List Event) (word : ℕ) → Follows first events t flat → 1 ≤ t.played
      → bytes_of (pieces (flat_due start version) events) ≡ begun version t.played flat
      → bytes_of (pieces (flat_due start version) (events ++ Gp0 word ∷ []))
      ≡ begun version (next_number t.played) (flat ++ Gp0 word ∷ [])
  one_written t events flat word follows some written =
      bytes_on (flat_due start version) events (Gp0 word)
      ∙ ap (λ bs. bs ++ bytes_of (flat_due start version events (Gp0 word))) written
      ∙ ap (λ bs. begun version t.played flat ++ bs)
      (append-nil (due_at version (replay_after start version events) (Gp0 word))
      ∙ ap (λ (u : Replay). due_at version u (Gp0 word)) (after_is start version events t flat follows))
      ∙ sym (begun_word version t flat word some follows.fresh)

  words_written : (words : List ℕ) (t : Replay) (events flat : List Event) → Follows first events t flat
      → AllowsAll 2 (word_events words) → 1 ≤ t.played
      → bytes_of (pieces (flat_due start version) events) ≡ begun version t.played flat
      → bytes_of (pieces (flat_due start version) (events ++ word_events words))
      ≡ begun version (after_words t words).played (flat ++ word_events words)
  words_written [] t events flat follows allows some written = rw (append-nil events, append-nil flat) written
  words_written (word ∷ words) t events flat follows allows some written =
      rw (
        ← append_assoc events (Gp0 word ∷ []) (word_events words),
        ← append_assoc flat (Gp0 word ∷ []) (word_events words),
      )
      (words_written words (after_word t word) (events ++ Gp0 word ∷ []) (flat ++ Gp0 word ∷ [])
      (word_follows first t events flat word follows (allows.0, tt)) allows.1 (omega (arith, some))
      (one_written t events flat word follows some written))

  -- what is known of each of them
  words_known : (words : List ℕ) (t : Replay) (events flat : List Event) → Follows first events t flat
      → AllowsAll 2 (word_events words) → 1 ≤ t.played
      → bytes_of (pieces (flat_due start version) events) ≡ begun version t.played flat
      → length (begun version t.played flat) + 8 * length words + 4 ≤ limit
      → KnowsEach (FlatKnows start version) events (word_events words)
  words_known [] t events flat follows allows some written room [] event later are = absurd cc
  words_known [] t events flat follows allows some written room (e ∷ earlier) event later are = absurd cc
  words_known (word ∷ words) t events flat follows allows some written room [] event later are =
      let is : Gp0 word ≡ event = cc in
      let P : Event → Type 0 = λ e. FlatKnows start version events e in
      let more = flat ++ Gp0 word ∷ [] in
      let all = all_flat first (after_word t word) (events ++ Gp0 word ∷ []) more
      (word_follows first t events flat word follows (allows.0, tt)) in
      let whole = written_length version t.played more in
      let one = ap length (begun_word version t flat word some follows.fresh) in
      let both = length-append (begun version t.played flat) (due_at version t (Gp0 word)) in
      let due = ap length (word_due version t word some) in
      let eight = words_bytes (word ∷ []) in
      let Q : List Event → Type 0 = λ es. FlatKnows start version es event in
      subst Q (sym (append-nil events))
      (subst P is (record {
        replay = t;
        flat = flat;
        follows = follows;
        written = written;
        fits = rw all (omega (arith, whole, one, both, due, eight, room));
      }))
  words_known (word ∷ words) t events flat follows allows some written room (e ∷ earlier) event later are =
      let is : Gp0 word ≡ e = cc in
      let rest : word_events words ≡ earlier ++ event ∷ later = cc in
      let longer = words_length version t flat (word ∷ []) some in
      let P : Event → Type 0 = λ x. FlatKnows start version (events ++ x ∷ earlier) event in
      let Q : List Event → Type 0 = λ es. FlatKnows start version es event in
      subst P is
      (subst Q (append_assoc events (Gp0 word ∷ []) earlier)
      (words_known words (after_word t word) (events ++ Gp0 word ∷ []) (flat ++ Gp0 word ∷ [])
      (word_follows first t events flat word follows (allows.0, tt)) allows.1 (omega (arith, some))
      (one_written t events flat word follows some written) (omega (arith, room, longer)) earlier event later rest))

words_count : (words : List ℕ) (t : Replay) → 1 ≤ t.played → 1 ≤ (after_words t words).played
words_count [] t some = some
words_count (word ∷ words) t some = words_count words (after_word t word) (omega (arith, some))

-- ---- they were taken

module _ (start : FlatStart) (version : ℕ) (events : List Event) (words : List ℕ) (at now : FlatAt)
    (st : FlatStands start version events at) (long : 1 ≤ length events)
    (tells : (s : Machine) → Stands at.rig s → Tells (after_words (from_state s at.rig.played) words)
    (without_sink at.heard at.steps) (without_sink now.heard now.steps) now.rig)
    (allows : AllowsAll 2 (word_events words)) (room : at.file.size + 8 * length words + 4 ≤ limit) where
  abbrev t : Replay
  t = st.plays.replay

  some : 1 ≤ t.played
  some = st.plays.counts long

  told : Tells (after_words (from_state t.state t.played) words) (without_sink at.heard at.steps)
      (without_sink now.heard now.steps) now.rig
  told =
      let P : ℕ → Type 0 = λ n. Tells (after_words (from_state t.state n) words) (without_sink at.heard at.steps)
      (without_sink now.heard now.steps) now.rig in
      subst P (sym st.plays.rig.played) (tells t.state st.plays.rig.state)

  pub words_stand : now.file.version ≡ at.file.version → now.file.size ≡ at.file.size + 8 * length words
      → FlatStands start version (events ++ word_events words) now
  words_stand same size =
      let cost = st.plays.cost in
      let spent = told.cost in
      let costs = more_cost t words in
      let was = st.size_is in
      let length_is = words_length version t st.plays.flat words some in
      let all = length-append events (word_events words) in
      record {
        plays = record {
          replay = after_words t words;
          flat = st.plays.flat ++ word_events words;
          follows = words_follow (first_of start version) t events st.plays.flat words st.plays.follows allows;
          rig = record {
            state = rw (same_state t words) told.stands.state;
            played = same_played t words ∙ told.stands.played;
          };
          heard = heard_on start.heard at.heard now.heard t.notes _ st.plays.heard told.heard
              ∙ ap (λ notes. told_notes notes start.heard) (sym (more_notes t words));
          cost = omega (arith, cost, spent, costs);
          small = words_small t words st.plays.small;
          counts = λ some_now. words_count words t some;
        };
        written = words_written start version words t events st.plays.flat st.plays.follows allows some st.written;
        version_is = same ∙ st.version_is;
        low = st.low;
        size_is = omega (arith, size, was, length_is);
        fits = omega (arith, size, room);
      }

  pub words_put : {Value : Type 0} (played : ℕ) → played ≡ at.rig.played → (before after : Holding)
      (result : Result Value ℕ) → PutsPieces (record_pieces played words) before after result
      → OnOk result (ArePut (pieces_after (flat_due start version) events (word_events words)) before after)
  words_put played is before after (Ok v) puts =
      rw (words_due start version words t events st.plays.flat st.plays.follows allows some, st.plays.rig.played, ← is)
      (each_put (record_pieces played words) before.held before.buffered after puts.ok.out)
  words_put played is before after (Err e) puts = tt

  pub words_lack : {Value : Type 0} (played : ℕ) → played ≡ at.rig.played → (before after : Holding)
      (result : Result Value ℕ) → PutsPieces (record_pieces played words) before after result
      → IfErr result (BreakPut (pieces_after (flat_due start version) events (word_events words)) before after.held)
  words_lack played is before after (Ok v) puts = tt
  words_lack played is before after (Err lacking) puts =
      rw (words_due start version words t events st.plays.flat st.plays.follows allows some, st.plays.rig.played, ← is)
      (each_breaks (record_pieces played words) before.held before.buffered after.held lacking puts.failed)

  pub words_know : KnowsEach (FlatKnows start version) events (word_events words)
  words_know =
      let size = st.size_is in
      words_known start version words t events st.plays.flat st.plays.follows allows some st.written
      (omega (arith, size, room))
