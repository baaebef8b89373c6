-- Words of an open record that are taken at once, one event per word.
use Rattle.std.proofs.Common.{◌≡◌, ◌≤◌, ◌<◌, ◌⊎◌, inl, inr, ℕ, zero, suc, ◌+◌, ◌*◌, ◌++◌, List, [], ◌∷◌, Option, None}
use Rattle.std.proofs.Common.{Some, Result, Ok}
use Rattle.std.proofs.Common.{Err, OnOk, IfErr, refl, ap, sym, subst, ◌∙◌, append_assoc, append-nil, length, take}
use Rattle.std.proofs.Common.{length-append, arith}
use Rattle.dev_io.specs.Device.{prepended}
use Rattle.dev_io.proofs.Parts.{taken_on}
use Rattle.gathered_out.specs.Pieces.{Piece, bytes_of}
use Rattle.gathered_out.specs.Puts.{holding}
use Rattle.gathered_out.proofs.Buffers.{BreaksDue, Buffers, buffers_more, buffers_none}
use Rattle.gathered_out.proofs.Pieces.{bytes_append}
use Rattle.gpu_capture.proofs.Steps.{split}
use Rattle.gpu_capture.proofs.Taken.{few_between}
use Rattle.gpu_capture.proofs.Versions.{version_from}
use Rattle.gpu_capture.specs.Capture.{ended, then_events}
use Rattle.gpu_capture.specs.Reader.{AreNeeded as ReaderNeeds, capture_from, reader_input}
use Rattle.gpu_capture.specs.Reading.{AreNeeded, IsCutShort, Reading}
use Rattle.gpu_capture.specs.Words.{StopsAfter as StopsAfterWords, TakesWords, word_events}
use Rattle.gpu_capture.specs.declared.event.Event.{Event}
use Rattle.gpu_capture.specs.declared.event.Event.TheVariants.{Gp0}
use Rattle.gpu_capture.specs.declared.event.Stop.{Stop}
use Rattle.gpu_capture.specs.declared.event.Stop.TheVariants.{Truncated}
use Rattle.gpu_capture.specs.declared.progress.Progress.{Progress}
use Rattle.event_loop.specs.Due.{Dues, pieces, pieces_after}
use Rattle.event_loop.specs.Ending.{Ends, Matter, Taker, held_at}
use Rattle.event_loop.specs.Pausing.{KnowsEach, WaitsAfter, most_after}
use Rattle.event_loop.specs.Puts.{ArePut, BreakPut}
use Rattle.event_loop.specs.declared.ended.Ended.TheVariants.{WriteFailed}
use Rattle.event_loop.proofs.Awaiting.{GoesOn, LiesAfter, Ports, held_all, ports}
use Rattle.event_loop.proofs.Due.{AreDue, after_on, breaks_all, buffers_all}
use Rattle.event_loop.proofs.Ending.{lacks_at}
use Rattle.event_loop.proofs.Lacking.{MayWait, WasDue, due_lies, due_more}
use Rattle.gpu_capture.proofs.Needed.{ReadsOn, cut_at, needed_end, says_on}

-- ---- bytes

-- these bytes are cut short before the last of these events
abbrev IsShortOf : Reading → List Event → List ℕ → Type 0
IsShortOf read events part = (event : Event) × (missing : List Event) × IsCutShort read events part (event ∷ missing)

short_on : (read : Reading) (events others : List Event) (part : List ℕ) → IsShortOf read events part
    → IsShortOf read (events ++ others) part
short_on read events others part short = (
  short.0,
  short.1 ++ others,
  record {
    version = short.2.version;
    byte = short.2.byte;
    fewer = short.2.fewer;
    are = ap (λ (all : List Event). all ++ others) short.2.are
        ∙ append_assoc short.2.fewer (short.0 ∷ short.1) others;
    is = short.2.is;
  },
)

-- bytes that are needed for some events are needed for more events
pub needed_more : (read : Reading) (events others : List Event) (taken : List ℕ) → AreNeeded read events taken
    → AreNeeded read (events ++ others) taken
needed_more read events others taken needed part more is some =
    short_on read events others part (needed part more is some)

-- bytes that say these events and then only some of the words are cut short
word_short : (read : Reading) (events : List Event) (words part : List ℕ) (count version byte : ℕ)
    → count < length words
    → read part ≡ then_events events (then_events (word_events (take count words)) (ended version (Truncated byte) []))
    → IsShortOf read (events ++ word_events words) part
word_short read events [] part count version byte fewer is = absurd (omega (arith, fewer))
word_short read events (word ∷ words) part zero version byte fewer is = (
  Gp0 word,
  word_events words,
  record {
    version = version;
    byte = byte;
    fewer = events;
    are = refl;
    is = is ∙ ap (cut_at version byte) (append-nil events);
  },
)
word_short read events (word ∷ words) part (suc count) version byte fewer is =
    let later = word_short read (events ++ Gp0 word ∷ []) words part count version byte (omega (arith, fewer))
    (is ∙ ap (cut_at version byte)
    (sym (append_assoc events (Gp0 word ∷ []) (word_events (take count words) ++ [])))) in
    subst (λ (all : List Event). IsShortOf read all part)
    (append_assoc events (Gp0 word ∷ []) (word_events words)) later

pub needed_words : (read : Reading) (old q : Progress) (left after : Option (List ℕ)) (events : List Event)
    (xs words : List ℕ) → ReadsOn read old xs events → AreNeeded read events xs
    → (takes : TakesWords (reader_input old left) (reader_input q after) words)
    → AreNeeded read (events ++ word_events words) (xs ++ takes.taken)
needed_words read old q left after events xs words reached was takes part more is some =
    elim (split xs takes.taken part more is) [
      | inl after ↦
          let short = takes.needed after.0 more after.2 some in
          word_short read events words part short.count short.version short.byte short.fewer
          (ap read after.1 ∙ reached after.0 ∙ ap (then_events events) short.is)
      | inr inside ↦ short_on read events (word_events words) part (was part inside.0 inside.1 inside.2)
    ]

-- no byte was taken without need if none was taken
pub reader_none : (p : Progress) → ReaderNeeds p []
reader_none p [] more is some = absurd (some (sym is))
reader_none p (x ∷ part) more is some = absurd cc

-- ---- a piece in the output of events

split_pieces : (ps qs whole : List Piece) (p : Piece) (later : List Piece) → ps ++ qs ≡ whole ++ p ∷ later
    → ((rest : List Piece) × (ps ≡ whole ++ p ∷ rest))
    ⊎ ((front : List Piece) × (whole ≡ ps ++ front) × (qs ≡ front ++ p ∷ later))
split_pieces [] qs whole p later is = inr (whole, refl, is)
split_pieces (x ∷ ps) qs [] p later is = inl (ps, cc)
split_pieces (x ∷ ps) qs (w ∷ whole) p later is =
    let same : x ≡ w = cc in
    let rest : ps ++ qs ≡ whole ++ p ∷ later = cc in
    elim (split_pieces ps qs whole p later rest) [
      | inl first ↦ let e = first.1 in inl (first.0, cc)
      | inr last ↦ let e = last.1 in inr (last.0, cc, last.2)
    ]

-- the event to which it belongs
record IsAmong (due : Dues) (before events : List Event) (front : List Piece) (p : Piece) : Type 0 where
  pub earlier : List Event
  pub event : Event
  pub later : List Event
  pub are : events ≡ earlier ++ event ∷ later
  pub first : List Piece
  pub back : List Piece
  pub pieces_are : due (before ++ earlier) event ≡ first ++ p ∷ back
  pub front_is : front ≡ pieces_after due before earlier ++ first

among : (due : Dues) (before events : List Event) (front : List Piece) (p : Piece) (back : List Piece)
    → pieces_after due before events ≡ front ++ p ∷ back → IsAmong due before events front p
among due before [] front p back is = absurd (none front is)
  where
    none : (front : List Piece) → [] ≡ front ++ p ∷ back → ⊥
    none [] is = cc
    none (x ∷ front) is = cc
among due before (e ∷ events) front p back is =
    elim (split_pieces (due before e) (pieces_after due (before ++ e ∷ []) events) front p back is) [
      | inl here ↦ record {
        earlier = [];
        event = e;
        later = events;
        are = refl;
        first = front;
        back = here.0;
        pieces_are = ap (λ (b : List Event). due b e) (append-nil before) ∙ here.1;
        front_is = refl;
      }
      | inr later ↦
          let a = among due (before ++ e ∷ []) events later.0 p back later.2 in
          record {
            earlier = e ∷ a.earlier;
            event = a.event;
            later = a.later;
            are = ap (λ (es : List Event). e ∷ es) a.are;
            first = a.first;
            back = a.back;
            pieces_are = ap (λ (b : List Event). due b a.event) (sym (append_assoc before (e ∷ []) a.earlier))
                ∙ a.pieces_are;
            front_is = later.1 ∙ ap (λ (ps : List Piece). due before e ++ ps) a.front_is
                ∙ sym (append_assoc (due before e) (pieces_after due (before ++ e ∷ []) a.earlier) a.first);
          }
    ]

-- the output of words that follow other events
due_words : (m : Matter) (events ws : List Event) (flushed after taken further : List ℕ) → taken ≡ flushed ++ after
    → AreNeeded m.read events taken → WaitsAfter m.most events → KnowsEach m.knows events ws
    → AreDue (WasDue m MayWait (events ++ ws) flushed (taken ++ further)) (bytes_of (pieces m.due events))
    (pieces_after m.due events ws)
due_words m events ws flushed after taken further taken_is needed waits knows front p back is =
    let a = among m.due events ws front p back is in
    let long = length-append events a.earlier in
    record {
      earlier = events ++ a.earlier;
      event = a.event;
      later = a.later;
      are = ap (λ (es : List Event). events ++ es) a.are ∙ sym (append_assoc events a.earlier (a.event ∷ a.later));
      front = a.first;
      lacking = p;
      back = a.back;
      pieces_are = a.pieces_are;
      number_is = refl;
      due_is = refl;
      was_is = ap (λ (ps : List Piece). bytes_of (pieces m.due events) ++ bytes_of ps) a.front_is
          ∙ sym (bytes_append (pieces m.due events) (pieces_after m.due events a.earlier ++ a.first))
          ∙ ap bytes_of (sym (append_assoc (pieces m.due events) (pieces_after m.due events a.earlier) a.first))
          ∙ ap (λ (ps : List Piece). bytes_of (ps ++ a.first)) (sym (after_on m.due [] events a.earlier));
      between = after;
      rest = further;
      taken_is = ap (λ bs. bs ++ further) taken_is;
      needed = rw (append_assoc events a.earlier (a.event ∷ []), ← taken_is)
          (needed_more m.read events (a.earlier ++ a.event ∷ []) taken needed);
      may = waits (events ++ a.earlier) a.event (omega (arith, long));
      known = knows a.earlier a.event a.later a.are;
    }

-- ---- words were taken

module _ (m : Matter) (before now : Ports) (buffered : List Piece) (since : ℕ) (old q : Progress)
    (events : List Event) (left : Option (List ℕ)) (words : List ℕ)
    (on : GoesOn m before now buffered since old events)
    (takes : TakesWords (reader_input old now.left) (reader_input q left) words) (version_is : q.version ≡ old.version)
    (near : q.offset < since + 4096) (knows : KnowsEach m.knows events (word_events words)) where
  abbrev ws : List Event
  ws = word_events words

  known : 1 ≤ q.version
  known = rw version_is on.says.known

  says : ReadsOn m.read q (on.taken ++ takes.taken) (events ++ ws)
  says = says_on m.read old q events ws on.taken takes.taken on.says.says takes.says

  lies : LiesAfter since q (on.after ++ takes.taken)
  lies =
      let was = on.says.lies in
      record {
        at = was.at;
        known = was.known;
        offset = was.offset;
        events = was.events ++ ws;
        says = says_on (capture_from was.at) old q was.events ws on.after takes.taken was.says takes.says;
      }

  few : (further : List ℕ) → ReaderNeeds q further
      → length ((on.after ++ takes.taken) ++ further) ≤ most_after
  few further needed =
      let offset = lies.offset in
      let all = length-append (on.after ++ takes.taken) further in
      let few = few_between lies.at q lies.events (on.after ++ takes.taken) further lies.known known lies.says
      (omega (arith, near, offset)) needed in
      omega (arith, all, few)

  -- the output so far, by more events and more bytes
  buffers_words : Buffers (WasDue m MayWait (events ++ ws) on.flushed (on.taken ++ takes.taken)) before.held
      (bytes_of (pieces m.due events)) now.held buffered
  buffers_words =
      buffers_more (WasDue m MayWait events on.flushed on.taken)
      (WasDue m MayWait (events ++ ws) on.flushed (on.taken ++ takes.taken)) before.held
      (bytes_of (pieces m.due events)) now.held buffered
      (due_more m events ws (events ++ ws) on.flushed on.taken takes.taken refl) on.buffers

  bytes_are : bytes_of (pieces m.due (events ++ ws))
      ≡ bytes_of (pieces m.due events) ++ bytes_of (pieces_after m.due events ws)
  bytes_are = ap bytes_of (after_on m.due [] events ws)
      ∙ bytes_append (pieces m.due events) (pieces_after m.due events ws)

  pub words_on : (held : Option (List ℕ)) (new : List Piece)
      → ArePut (pieces_after m.due events ws) (holding now.held buffered) (holding held new)
      → (new ≡ []) ⊎ WaitsAfter m.most events
      → GoesOn m before (ports left held) new since q (events ++ ws)
  words_on held new put may =
      let all = bytes_of (pieces m.due events) in
      let more = bytes_of (pieces_after m.due events ws) in
      let due = WasDue m MayWait (events ++ ws) on.flushed (on.taken ++ takes.taken) in
      let none_few = few [] (reader_none q) in
      let nil = append-nil (on.after ++ takes.taken) in
      let Q : List ℕ → Type 0 = λ bs. Buffers due before.held bs held new in
      record {
        taken = on.taken ++ takes.taken;
        bytes = taken_on before.left now.left left on.taken takes.taken on.bytes takes.bytes;
        flushed = on.flushed;
        after = on.after ++ takes.taken;
        taken_is = ap (λ bs. bs ++ takes.taken) on.taken_is ∙ append_assoc on.flushed on.after takes.taken;
        says = record {
          says = says;
          needed = needed_words m.read old q now.left left events on.taken words on.says.says on.says.needed takes;
          known = known;
          same = version_is ∙ on.says.same;
          lies = lies;
        };
        few = rw nil at none_few;
        buffers = subst Q (sym bytes_are) (elim may [
          | inl none ↦
              let any : ℕ → List ℕ → List ℕ → Type 0 = λ number was is. Unit {0} in
              let put_all = buffers_all any before.held (pieces_after m.due events ws) all
              (holding now.held buffered) (holding held new) (λ front p back is. tt)
              (buffers_more due any before.held all now.held buffered (λ number was is at. tt) buffers_words) put in
              rw none
              (buffers_none due before.held (all ++ more) held
              (held_all any before.held (all ++ more) held new none put_all))
          | inr waits ↦
              buffers_all due before.held (pieces_after m.due events ws) all (holding now.held buffered)
              (holding held new)
              (due_words m events ws on.flushed on.after on.taken takes.taken on.taken_is on.says.needed waits knows)
              buffers_words put
        ]);
      }

  -- a write failed in the output of the words, after more bytes were taken
  module _ {R : Type 0} (taker : Taker R) (held : Option (List ℕ)) (number : ℕ)
      (breaks : BreakPut (pieces_after m.due events ws) (holding now.held buffered) held number)
      (waits : WaitsAfter m.most events) (stands : taker.stands (events ++ ws)) where
    breaks_due : BreaksDue (WasDue m MayWait (events ++ ws) on.flushed (on.taken ++ takes.taken)) before.held held
        number
    breaks_due =
        breaks_all (WasDue m MayWait (events ++ ws) on.flushed (on.taken ++ takes.taken)) before.held
        (pieces_after m.due events ws) (bytes_of (pieces m.due events)) (holding now.held buffered) held number
        (due_words m events ws on.flushed on.after on.taken takes.taken on.taken_is on.says.needed waits knows)
        buffers_words breaks

    pub words_lack_with : (further : List ℕ) (after : Option (List ℕ)) → left ≡ prepended further after
        → ReaderNeeds q further
        → Ends m taker before.left after (held_at before.held held) (WriteFailed number)
    words_lack_with further after bytes needed =
        let taken = (on.taken ++ takes.taken) ++ further in
        let due = breaks_due in
        lacks_at m taker before.left after taken on.flushed ((on.after ++ takes.taken) ++ further) (events ++ ws)
        before.held held number
        (taken_on before.left left after (on.taken ++ takes.taken) further
        (taken_on before.left now.left left on.taken takes.taken on.bytes takes.bytes) bytes)
        (ap (λ bs. (bs ++ takes.taken) ++ further) on.taken_is
        ∙ ap (λ bs. bs ++ further) (append_assoc on.flushed on.after takes.taken)
        ∙ append_assoc on.flushed (on.after ++ takes.taken) further)
        (few further needed)
        (record {
          was = due.was;
          due = due.due;
          is = due_lies m (events ++ ws) on.flushed taken number due.was due.due
              (due_more m (events ++ ws) [] (events ++ ws) on.flushed (on.taken ++ takes.taken) further
              (sym (append-nil (events ++ ws))) number due.was due.due due.is);
          held = due.held;
        })
        (needed_end m.read q (events ++ ws) (on.taken ++ takes.taken) further says
        (needed_words m.read old q now.left left events on.taken words on.says.says on.says.needed takes) needed)
        (λ rest. (
          capture_from q (further ++ rest),
          ap m.read (append_assoc (on.taken ++ takes.taken) further rest) ∙ says (further ++ rest),
          version_from q (further ++ rest) known ∙ (version_is ∙ on.says.same),
        ))
        (inl stands)

-- the same for each result of the reader
pub words_lack : {R Got : Type 0} (m : Matter) (taker : Taker R) (before now : Ports) (buffered : List Piece)
    (since : ℕ) (old q : Progress) (events : List Event) (left : Option (List ℕ)) (words : List ℕ)
    → GoesOn m before now buffered since old events → (read : Result Got Stop)
    → OnOk read (TakesWords (reader_input old now.left) (reader_input q left) words)
    → IfErr read (λ stop. StopsAfterWords (reader_input old now.left) (reader_input q left) words stop)
    → q.version ≡ old.version → q.offset < since + 4096 → KnowsEach m.knows events (word_events words)
    → (held : Option (List ℕ)) (number : ℕ)
    → BreakPut (pieces_after m.due events (word_events words)) (holding now.held buffered) held number
    → WaitsAfter m.most events → taker.stands (events ++ word_events words)
    → Ends m taker before.left left (held_at before.held held) (WriteFailed number)
words_lack m taker before now buffered since old q events left words on
    (Ok v) takes stops version near knows held number
    breaks waits stands =
    words_lack_with m before now buffered since old q events left words on takes version near knows taker held number
    breaks waits stands [] left (none_taken left) (reader_none q)
  where
    none_taken : (left : Option (List ℕ)) → left ≡ prepended [] left
    none_taken None = refl
    none_taken (Some left) = refl
words_lack m taker before now buffered since old q events left words on
    (Err stop) takes stops version near knows held number
    breaks waits stands =
    words_lack_with m before now buffered since old q events stops.left words on stops.takes version near knows taker
    held
    number breaks waits stands stops.stops.taken left stops.stops.bytes stops.stops.needed

-- the offset of the reader after the words
pub words_place : {Got : Type 0} (old q : Progress) (left after : Option (List ℕ)) (words : List ℕ)
    (read : Result Got Stop) → OnOk read (TakesWords (reader_input old left) (reader_input q after) words)
    → IfErr read (λ stop. StopsAfterWords (reader_input old left) (reader_input q after) words stop)
    → q.offset ≡ old.offset + 4 * length words
words_place old q left after words (Ok v) takes stops = takes.offset
words_place old q left after words (Err stop) takes stops = stops.takes.offset
