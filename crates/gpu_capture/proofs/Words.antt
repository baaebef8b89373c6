-- Words read one by one, from bytes that were read at once.
use Rattle.std.proofs.Common.{◌≡◌, ◌≤◌, ◌<◌, ◌+◌, ◌-◌, ◌*◌, ◌/◌, ◌%◌, ◌++◌, inl, inr, List, [], ◌∷◌, ℕ, Option}
use Rattle.std.proofs.Common.{true, false, length, nat_lt, take, drop, refl, ap, sym, subst, ◌∙◌, arith}
use Rattle.std.proofs.Common.{append_assoc, length-append, length-drop}
use Rattle.std.proofs.lemmas.Bool.{cases_Bool}
use Rattle.std.proofs.lemmas.Bool.Decides.{nat_tests}
use Rattle.std.proofs.lemmas.List.{map-append, take-append-le, take_all, drop-drop, drop_all}
use Rattle.byteorder.specs.Endian.{little_number}
use Rattle.dev_io.specs.Device.{prepended, IsAtEnd}
use Rattle.dev_io.proofs.Parts.{prepended-nil, prepended-prepended, taken_on}
use Rattle.gpu_capture.specs.Capture.{Captured, then_events, records, limit}
use Rattle.gpu_capture.specs.Record.{gp0_expected, word_step}
use Rattle.gpu_capture.specs.Reader.{ReaderInput, IsWord, Takes, SaysNoWord, capture_from, reader_input}
use Rattle.gpu_capture.specs.Words.{word_events, IsCutWithin, TakesWords, StopsAfter, MayTake, gp0_left, words_expected}
use Rattle.gpu_capture.specs.Words.{progress_after_words}
use Rattle.gpu_capture.specs.declared.event.Event.{Event}
use Rattle.gpu_capture.specs.declared.event.Event.TheVariants.{Gp0}
use Rattle.gpu_capture.specs.declared.event.Stop.{Stop}
use Rattle.gpu_capture.specs.declared.event.Stop.TheVariants.{Truncated, ReadFault}
use Rattle.gpu_capture.specs.declared.progress.Progress.{Progress}
use Rattle.gpu_capture.specs.declared.record.Expected.{Expected}
use Rattle.gpu_capture.specs.declared.record.Expected.TheVariants as expected
use Rattle.gpu_capture.specs.declared.record.Step.TheVariants.{Gives}
use Rattle.gpu_capture.proofs.Steps.{split, word_needed, took_says, on, at_word, no_word_stops}

-- ---- no word, and one more

-- two reader states at the same offset with the same meaning of every rest have no word between them
pub words_none : (p q : Progress) (left : Option (List ℕ)) → q.offset ≡ p.offset
    → ((rest : List ℕ) → capture_from p rest ≡ capture_from q rest)
    → TakesWords (reader_input p left) (reader_input q left) []
words_none p q left at same = record {
  taken = [];
  bytes = prepended-nil left;
  needed = none;
  says = same;
  offset = omega (arith, at);
}
  where
    none : (part more : List ℕ) → [] ≡ part ++ more → (more ≡ [] → ⊥) → IsCutWithin p [] part
    none [] [] is some = absurd (some refl)
    none [] (x ∷ xs) is some = absurd cc
    none (x ∷ xs) more is some = absurd cc

events_on : (words : List ℕ) (word : ℕ) (c : Captured)
    → then_events (word_events words) (then_events (Gp0 word ∷ []) c) ≡ then_events (word_events (words ++ word ∷ [])) c
events_on words word c =
    let e : word_events (words ++ word ∷ []) ++ c.events ≡ word_events words ++ (Gp0 word ∷ c.events) =
    ap (λ events. events ++ c.events) (map-append Gp0 words (word ∷ []))
    ∙ append_assoc (word_events words) (Gp0 word ∷ []) c.events in
    ap (λ (events : List Event). record c { events = events }) (sym e)

module _ (before mid now : ReaderInput) (words : List ℕ) (word : ℕ)
    (first : TakesWords before mid words) (next : Takes mid now (Gp0 word ∷ []))
    (at : now.progress.offset ≡ mid.progress.offset + 4) where
  longer : length words < length (words ++ word ∷ [])
  longer = let e = length-append words (word ∷ []) in omega (arith, e)

  cut_on : (part more : List ℕ) → first.taken ++ next.taken ≡ part ++ more → (more ≡ [] → ⊥)
      → IsCutWithin before.progress (words ++ word ∷ []) part
  cut_on part more is some =
      elim (split first.taken next.taken part more is) [
        | inl after ↦ let short = next.needed after.0 more after.2 some in record {
          count = length words;
          fewer = longer;
          version = short.version;
          byte = short.byte;
          is = rw (
            take-append-le (length words) words (word ∷ []) (omega arith),
            take_all (length words) words
                (omega arith),
          )
              (ap (capture_from before.progress) after.1 ∙ first.says after.0
              ∙ ap (then_events (word_events words)) short.is);
        }
        | inr inside ↦ let short = first.needed part inside.0 inside.1 inside.2 in record {
          count = short.count;
          fewer = let fewer = short.fewer in let e = longer in omega (arith, fewer, e);
          version = short.version;
          byte = short.byte;
          is = rw (take-append-le short.count words (word ∷ []) (let fewer = short.fewer in omega (arith, fewer)))
              short.is;
        }
      ]

  pub words_on : TakesWords before now (words ++ word ∷ [])
  words_on = record {
    taken = first.taken ++ next.taken;
    bytes = taken_on before.left mid.left now.left first.taken next.taken first.bytes next.bytes;
    needed = cut_on;
    says = λ rest. ap (capture_from before.progress) (append_assoc first.taken next.taken rest)
        ∙ first.says (next.taken ++ rest) ∙ ap (then_events (word_events words)) (next.says rest)
        ∙ events_on words word (capture_from now.progress rest);
    offset = let was = first.offset in let long = length-append words (word ∷ []) in omega (arith, was, at, long);
  }

-- ---- a word of an open record

-- a record with words left is open
is_open : (at : Expected) → 0 < gp0_left at → at ≡ expected.Gp0 (gp0_left at)
is_open (expected.Gp0 left) some = refl
is_open expected.Tag some = absurd (omega (arith, some))
is_open (expected.Address count) some = absurd (omega (arith, some))
is_open (expected.Ram address left) some = absurd (omega (arith, some))
is_open expected.Gp1 some = absurd (omega (arith, some))
is_open (expected.Madr by) some = absurd (omega (arith, some))
is_open (expected.Bcr by madr) some = absurd (omega (arith, some))
is_open (expected.Chcr by madr bcr) some = absurd (omega (arith, some))

expected_before : (left count : ℕ) → count < left → words_expected left count ≡ expected.Gp0 (left - count)
expected_before left count lt = let e : nat_lt count left ≡ true = grind (arith, lt) in rw e refl

expected_next : (left count : ℕ) → count < left → gp0_expected (left - count) ≡ words_expected left (count + 1)
expected_next left count lt =
    elim (cases_Bool (nat_lt (count + 1) left)) [
      | inl is ↦
          let more : nat_lt 1 (left - count) ≡ true = grind (arith, nat_tests, is, lt) in
          let same : left - count - 1 ≡ left - (count + 1) = omega arith in
          rw (is, more, same) refl
      | inr is ↦
          let none : nat_lt 1 (left - count) ≡ false = grind (arith, nat_tests, is, lt) in
          rw (is, none) refl
    ]

-- the meaning of bytes after the next `count` words
after_say : (p : Progress) (count : ℕ) (rest : List ℕ) → 1 ≤ p.version
    → capture_from (progress_after_words p count) rest ≡ records p.version (words_expected (gp0_left p.expected) count)
    (p.offset + 4 * count) rest
after_say p count rest started = rw (on p.version started) refl

module _ (p : Progress) (most : ℕ) (may : MayTake p most) where
  -- after no word it is the meaning for the reader itself
  same_none : (rest : List ℕ) → capture_from p rest ≡ capture_from (progress_after_words p 0) rest
  same_none rest =
      let none = expected_before (gp0_left p.expected) 0 may.open_record in
      let all : gp0_left p.expected ≡ gp0_left p.expected - 0 = omega arith in
      let at : p.expected ≡ words_expected (gp0_left p.expected) 0 =
      is_open p.expected may.open_record ∙ ap expected.Gp0 all ∙ sym none in
      let offset : p.offset ≡ p.offset + 4 * 0 = omega arith in
      at_word p rest may.started may.none
      ∙ ap (λ at. records p.version at p.offset rest) at
      ∙ ap (λ offset. records p.version (words_expected (gp0_left p.expected) 0) offset rest) offset
      ∙ sym (after_say p 0 rest may.started)

  pub none_taken : (left : Option (List ℕ))
      → TakesWords (reader_input p left) (reader_input (progress_after_words p 0) left) []
  none_taken left = words_none p (progress_after_words p 0) left (omega arith) same_none

  module _ (count word : ℕ) (lt : count < most) where
    less : count < gp0_left p.expected
    less = let few = may.few in omega (arith, few, lt)

    step_is : Gives (Gp0 word) 1 (gp0_expected (gp0_left p.expected - count))
        ≡ word_step p.version (words_expected (gp0_left p.expected) count) (p.offset + 4 * count) word
    step_is =
        let at = expected_before (gp0_left p.expected) count less in
        ap (λ at. word_step p.version at (p.offset + 4 * count) word) (sym at)

    after_next : (rest : List ℕ)
        → records p.version (gp0_expected (gp0_left p.expected - count)) (p.offset + 4 * count + 4) rest
        ≡ capture_from (progress_after_words p (count + 1)) rest
    after_next rest =
        let offset : p.offset + 4 * count + 4 ≡ p.offset + 4 * (count + 1) = omega arith in
        ap (λ at. records p.version at (p.offset + 4 * count + 4) rest) (expected_next (gp0_left p.expected) count less)
        ∙ ap (λ offset. records p.version (words_expected (gp0_left p.expected) (count + 1)) offset rest) offset
        ∙ sym (after_say p (count + 1) rest may.started)

    pub word_taken : (before now : Option (List ℕ)) → IsWord before now (p.offset + 4 * count) word
        → Takes (reader_input (progress_after_words p count) before)
        (reader_input (progress_after_words p (count + 1)) now) (Gp0 word ∷ [])
    word_taken before now took = record {
      taken = took.a ∷ took.b ∷ took.c ∷ took.d ∷ [];
      bytes = took.bytes;
      needed = word_needed (progress_after_words p count) _ may.started refl took.below_limit (omega arith);
      says = λ rest.
          took_says (progress_after_words p count) before now word
          (Gives (Gp0 word) 1 (gp0_expected (gp0_left p.expected - count))) rest
          may.started refl took step_is
          ∙ ap (then_events (Gp0 word ∷ [])) (after_next rest);
    }

-- ---- words in bytes

-- the first word in the bytes
first_word : (xs : List ℕ) (offset : ℕ) (now : Option (List ℕ)) → offset < limit → 4 ≤ length xs
    → IsWord (prepended xs now) (prepended (drop 4 xs) now) offset (little_number 4 xs)
first_word (a ∷ b ∷ c ∷ d ∷ xs) offset now below four = record {
  below_limit = below;
  a = a;
  b = b;
  c = c;
  d = d;
  bytes = sym (prepended-prepended (a ∷ b ∷ c ∷ d ∷ []) xs now);
  word_is = refl;
}
first_word [] offset now below four = absurd (omega (arith, four))
first_word (a ∷ []) offset now below four = absurd (omega (arith, four))
first_word (a ∷ b ∷ []) offset now below four = absurd (omega (arith, four))
first_word (a ∷ b ∷ c ∷ []) offset now below four = absurd (omega (arith, four))

pub word_in : (bytes : List ℕ) (i offset word : ℕ) (now : Option (List ℕ)) → offset < limit → 4 * i + 4 ≤ length bytes
    → word ≡ little_number 4 (take (length bytes - 4 * i) (drop (4 * i) bytes))
    → IsWord (prepended (drop (4 * i) bytes) now) (prepended (drop (4 * (i + 1)) bytes) now) offset word
word_in bytes i offset word now below four is =
    let xs = drop (4 * i) bytes in
    let long = length-drop (4 * i) bytes in
    let all : take (length bytes - 4 * i) xs ≡ xs = take_all (length bytes - 4 * i) xs (omega (arith, long)) in
    let same : word ≡ little_number 4 xs = is ∙ ap (little_number 4) all in
    let more : drop 4 xs ≡ drop (4 * (i + 1)) bytes =
    drop-drop 4 (4 * i) bytes ∙ (let e : 4 * i + 4 ≡ 4 * (i + 1) = omega arith in ap (λ n. drop n bytes) e) in
    let P : List ℕ → Type 0 = λ ys. IsWord (prepended xs now) (prepended ys now) offset word in
    subst P more
    (let Q : ℕ → Type 0 = λ w. IsWord (prepended xs now) (prepended (drop 4 xs) now) offset w in
    subst Q (sym same) (first_word xs offset now below (omega (arith, long, four))))

-- ---- bytes that were read at once

module _ (p q : Progress) (before now : Option (List ℕ)) (words bytes : List ℕ) (got : before ≡ prepended bytes now)
    (takes : (now : Option (List ℕ)) → TakesWords (reader_input p (prepended bytes now))
    (reader_input q (prepended (drop (4 * (length bytes / 4)) bytes) now)) words) where
  -- the bytes after the last complete word
  abbrev begun : List ℕ
  begun = drop (4 * (length bytes / 4)) bytes

  all_words : TakesWords (reader_input p before) (reader_input q (prepended begun now)) words
  all_words =
      let P : Option (List ℕ) → Type 0 = λ left.
      TakesWords (reader_input p left) (reader_input q (prepended begun now)) words in
      subst P (sym got) (takes now)

  pub whole_words : length bytes % 4 ≡ 0 → TakesWords (reader_input p before) (reader_input q now) words
  whole_words whole =
      let none : begun ≡ [] = drop_all (4 * (length bytes / 4)) bytes (omega arith) in
      let same : prepended begun now ≡ now = ap (λ bytes. prepended bytes now) none ∙ sym (prepended-nil now) in
      let P : Option (List ℕ) → Type 0 = λ left. TakesWords (reader_input p before) (reader_input q left) words in
      subst P same all_words

  module _ (room : ℕ) (may : MayTake p (room / 4)) (whole : room % 4 ≡ 0) (short : length bytes < room)
      (is : q ≡ progress_after_words p (length bytes / 4)) where
    stops_in : (stop : Stop) → SaysNoWord stop q.offset begun now
        → StopsAfter (reader_input p before) (reader_input q now) words stop
    stops_in stop says = record {
      left = prepended begun now;
      takes = all_words;
      stops = no_word_stops q (prepended begun now) now stop
          (let e : q.version ≡ p.version = ap (λ (q : Progress). q.version) is in let known = may.started in
          omega (arith, e, known))
          (ap (λ (q : Progress). q.left) is)
          (record { taken = begun; bytes = refl; says = says });
    }

    offset_is : q.offset ≡ p.offset + 4 * (length bytes / 4)
    offset_is = ap (λ (q : Progress). q.offset) is

    few : length begun ≡ length bytes - 4 * (length bytes / 4)
    few = length-drop (4 * (length bytes / 4)) bytes

    within_limit : q.offset < limit
    within_limit = let e = offset_is in let below = may.below_limit in omega (arith, e, below, whole, short)

    module _ (n : ℕ) (long : length bytes ≡ n) where
      ends_at : p.offset + n ≡ q.offset + length begun
      ends_at = let e = offset_is in let f = few in omega (arith, e, f, long)

      pub stops_short : IsAtEnd now
          → StopsAfter (reader_input p before) (reader_input q now) words (Truncated (p.offset + n))
      stops_short at_end = stops_in _ (within_limit, (let f = few in omega (arith, f)), ends_at, at_end)

      pub stops_failed : StopsAfter (reader_input p before) (reader_input q now) words (ReadFault (p.offset + n))
      stops_failed = stops_in _ (within_limit, (let f = few in omega (arith, f)), ends_at)
