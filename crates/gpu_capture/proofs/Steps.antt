-- The steps of a reader, one after another.
use Rattle.std.proofs.Common.{◌≡◌, ◌≤◌, ◌<◌, ◌+◌, ◌-◌, ◌^◌, ◌++◌, ◌⊎◌, inl, inr, List, [], ◌∷◌, ℕ, zero, suc, Option}
use Rattle.std.proofs.Common.{Ok, Err, true, false, length, nat_lt, replicate, refl, ap, append_assoc, length-append}
use Rattle.std.proofs.Common.{length-take-le, take, take_all, sym, ◌∙◌, arith}
use Rattle.dev_io.specs.Device.{prepended, IsAtEnd}
use Rattle.dev_io.proofs.Parts.{prepended-nil, taken_on}
use Rattle.byteorder.specs.Endian.{little_number}
use Rattle.gpu_capture.specs.Capture.{Captured, ended, opened, head_version, then_events, after_step, records, limit}
use Rattle.gpu_capture.specs.Record.{word_step, IsWordStop}
use Rattle.gpu_capture.specs.Reader.{ReaderInput, IsWord, EndsWord, AreNeeded, Takes, StopsAt, SaysStop, SaysNoWord}
use Rattle.gpu_capture.specs.Reader.{capture_from, reader_input, work_left, tag_expected, progress_after_word}
use Rattle.gpu_capture.specs.declared.event.Event.{Event}
use Rattle.gpu_capture.specs.declared.event.Stop.{Stop}
use Rattle.gpu_capture.specs.declared.event.Stop.TheVariants.{End, NotCapture, BadRecord, TooLong, Truncated, ReadFault}
use Rattle.gpu_capture.specs.declared.record.Expected.{Expected}
use Rattle.gpu_capture.specs.declared.record.Step.{Step}
use Rattle.gpu_capture.specs.declared.record.Step.TheVariants.{Opens, Gives as GivesEvents, Closes}
use Rattle.gpu_capture.specs.declared.progress.Progress.{Progress}

past : (offset : ℕ) → limit ≤ offset → nat_lt offset limit ≡ false
past offset le = grind arith

within : (offset : ℕ) → offset < limit → nat_lt offset limit ≡ true
within offset lt = grind arith

-- ---- no word can be read

records_past : (version : ℕ) (at : Expected) (offset : ℕ) (bytes : List ℕ) → limit ≤ offset
    → records version at offset bytes ≡ ended version (TooLong limit) bytes
records_past version at offset [] le = rw (past offset le) refl
records_past version at offset (a ∷ []) le = rw (past offset le) refl
records_past version at offset (a ∷ b ∷ []) le = rw (past offset le) refl
records_past version at offset (a ∷ b ∷ c ∷ []) le = rw (past offset le) refl
records_past version at offset (a ∷ b ∷ c ∷ d ∷ bytes) le = rw (past offset le) refl

records_short : (version : ℕ) (at : Expected) (offset : ℕ) (bytes : List ℕ) → offset < limit → length bytes < 4
    → records version at offset bytes ≡ ended version (Truncated (offset + length bytes)) []
records_short version at offset [] lt short = rw (within offset lt) refl
records_short version at offset (a ∷ []) lt short = rw (within offset lt) refl
records_short version at offset (a ∷ b ∷ []) lt short = rw (within offset lt) refl
records_short version at offset (a ∷ b ∷ c ∷ []) lt short = rw (within offset lt) refl
records_short version at offset (a ∷ b ∷ c ∷ d ∷ bytes) lt short = absurd (omega arith)

pub on : (version : ℕ) → 0 < version → nat_lt 0 version ≡ true
on version lt = grind arith

off : (version : ℕ) → version ≡ 0 → nat_lt 0 version ≡ false
off version none = rw none refl

-- the meaning of bytes after the header, if no repeated event is left
pub at_word : (p : Progress) (bytes : List ℕ) → 0 < p.version → p.left ≡ 0 → capture_from p bytes
    ≡ records p.version p.expected p.offset bytes
at_word p bytes started none = rw (on p.version started, none) refl

-- ---- needed bytes

-- a proper prefix is shorter
part_shorter : (taken part more : List ℕ) → taken ≡ part ++ more → (more ≡ [] → ⊥) → length part < length taken
part_shorter taken part [] is some = absurd (some refl)
part_shorter taken part (x ∷ xs) is some = let e : length taken ≡ length part + suc (length xs) = ap length is
    ∙ length-append part (x ∷ xs) in omega (arith, e)

none_needed : (p : Progress) → AreNeeded p []
none_needed p [] [] is some = absurd (some refl)
none_needed p [] (x ∷ xs) is some = absurd cc
none_needed p (x ∷ xs) more is some = absurd cc

-- up to four bytes of a word are needed
pub word_needed : (p : Progress) (taken : List ℕ) → 0 < p.version → p.left ≡ 0 → p.offset < limit → length taken ≤ 4
    → AreNeeded p taken
word_needed p taken started none lt few part more is some =
    let short = part_shorter taken part more is some in
    record {
      version = p.version;
      byte = p.offset + length part;
      is = at_word p part started none
          ∙ records_short p.version p.expected p.offset part lt (omega (arith, short, few));
    }

-- up to eight bytes of the header are needed
pub head_needed : (p : Progress) (taken : List ℕ) → p.version ≡ 0 → length taken ≤ 8 → AreNeeded p taken
head_needed p taken unstarted few part more is some =
    let short = part_shorter taken part more is some in
    let e : nat_lt (length part) 8 ≡ true = grind (arith, short, few) in
    record { version = 0; byte = length part; is = rw (off p.version unstarted, e) refl }

-- one list split in two ways: `part` reaches at least to the end of `xs`, or ends inside it
pub split : (xs ys part more : List ℕ) → xs ++ ys ≡ part ++ more
    → ((zs : List ℕ) × (part ≡ xs ++ zs) × (ys ≡ zs ++ more)) ⊎ ((zs : List ℕ) × (xs ≡ part ++ zs) × (zs ≡ [] → ⊥))
split [] ys part more e = inl (part, refl, e)
split (x ∷ xs) ys [] more e = inr (x ∷ xs, refl, λ none. absurd cc)
split (x ∷ xs) ys (p ∷ ps) more e =
    let same : x ≡ p = cc in
    let rest : xs ++ ys ≡ ps ++ more = cc in
    elim (split xs ys ps more rest) [
      | inl after ↦ let is = after.1 in inl (after.0, cc, after.2)
      | inr inside ↦ let is = inside.1 in inr (inside.0, cc, inside.2)
    ]

needed_on : (p q : Progress) (xs ys : List ℕ) → ((rest : List ℕ) → capture_from p (xs ++ rest) ≡ capture_from q rest)
    → AreNeeded p xs → AreNeeded q ys → AreNeeded p (xs ++ ys)
needed_on p q xs ys moved first next part more is some =
    elim (split xs ys part more is) [
      | inl after ↦ let short = next after.0 more after.2 some in record {
        version = short.version;
        byte = short.byte;
        is = ap (capture_from p) after.1 ∙ moved after.0 ∙ short.is;
      }
      | inr inside ↦ first part inside.0 inside.1 inside.2
    ]

no_word_says : (p : Progress) (stop : Stop) (taken : List ℕ) (now : Option (List ℕ)) → 0 < p.version → p.left ≡ 0
    → SaysNoWord stop p.offset taken now → SaysStop stop p p.version taken now
no_word_says p (TooLong byte) taken now started none says =
    λ rest. rw (says.0, says.2) (at_word p rest started none ∙ records_past p.version p.expected p.offset rest says.1)
no_word_says p (Truncated byte) taken now started none says =
    (rw says.2 (at_word p taken started none ∙ records_short p.version p.expected p.offset taken says.0 says.1), says.3)
no_word_says p (ReadFault byte) taken now started none says =
    rw says.2 (at_word p taken started none ∙ records_short p.version p.expected p.offset taken says.0 says.1)
no_word_says p End taken now started none says = absurd says
no_word_says p (NotCapture byte) taken now started none says = absurd says
no_word_says p (BadRecord byte word) taken now started none says = absurd says

no_word_needed : (p : Progress) (stop : Stop) (taken : List ℕ) (now : Option (List ℕ)) → 0 < p.version → p.left ≡ 0
    → SaysNoWord stop p.offset taken now → AreNeeded p taken
no_word_needed p (TooLong byte) taken now started none says = rw says.2 (none_needed p)
no_word_needed p (Truncated byte) taken now started none says = word_needed p taken started none says.0
    (omega (arith, says.1))
no_word_needed p (ReadFault byte) taken now started none says = word_needed p taken started none says.0
    (omega (arith, says.1))
no_word_needed p End taken now started none says = absurd says
no_word_needed p (NotCapture byte) taken now started none says = absurd says
no_word_needed p (BadRecord byte word) taken now started none says = absurd says

-- if no word can be read, a reader stops
pub no_word_stops : (p : Progress) (before now : Option (List ℕ)) (stop : Stop) → 0 < p.version → p.left ≡ 0
    → EndsWord before now p.offset stop → StopsAt (reader_input p before) (reader_input p now) stop
no_word_stops p before now stop started none lack = record {
  taken = lack.taken;
  bytes = lack.bytes;
  needed = no_word_needed p stop lack.taken now started none lack.says;
  says = no_word_says p stop lack.taken now started none lack.says;
}

-- ---- one word

-- the meaning of a word and the bytes after it
word_says : (p : Progress) (a b c d : ℕ) (bytes : List ℕ) → 0 < p.version → p.left ≡ 0 → p.offset < limit
    → capture_from p (a ∷ b ∷ c ∷ d ∷ bytes)
    ≡ after_step p.version (word_step p.version p.expected p.offset (little_number 4 (a ∷ b ∷ c ∷ d ∷ [])))
    (λ next. records p.version next (p.offset + 4) bytes) bytes
word_says p a b c d bytes started none lt =
    at_word p (a ∷ b ∷ c ∷ d ∷ bytes) started none ∙ rw (within p.offset lt) refl

-- the same for a word that was read
pub took_says : (p : Progress) (before now : Option (List ℕ)) (word : ℕ) (step : Step) (rest : List ℕ) → 0 < p.version
    → p.left ≡ 0
    → (took : IsWord before now p.offset word) → step ≡ word_step p.version p.expected p.offset word
    → capture_from p ((took.a ∷ took.b ∷ took.c ∷ took.d ∷ []) ++ rest)
    ≡ after_step p.version step (λ next. records p.version next (p.offset + 4) rest) rest
took_says p before now word step rest started none took is =
    word_says p took.a took.b took.c took.d rest started none took.below_limit
    ∙ ap (λ s. after_step p.version s (λ next. records p.version next (p.offset + 4) rest) rest)
    (ap (word_step p.version p.expected p.offset) (sym took.word_is) ∙ sym is)

-- the meaning of bytes for the reader state after a word
after_says : (p : Progress) (next : Expected) (repeated : Event) (left : ℕ) (rest : List ℕ) → 0 < p.version
    → capture_from (progress_after_word p next repeated left) rest ≡ then_events (replicate left repeated)
    (records p.version next (p.offset + 4) rest)
after_says p next repeated left rest started = rw (on p.version started) refl

pub opens_word : (p : Progress) (before now : Option (List ℕ)) (word : ℕ) (next : Expected) → 0 < p.version → p.left ≡ 0
    → IsWord before now p.offset word → Opens next ≡ word_step p.version p.expected p.offset word
    → Takes (reader_input p before) (reader_input (progress_after_word p next p.repeated 0) now) []
opens_word p before now word next started none took is = record {
  taken = took.a ∷ took.b ∷ took.c ∷ took.d ∷ [];
  bytes = took.bytes;
  needed = word_needed p _ started none took.below_limit (omega arith);
  says = λ rest. took_says p before now word (Opens next) rest started none took is
      ∙ sym (after_says p next p.repeated 0 rest started);
}

-- the first of `count` equal events, and the others
first_of_them : (event : Event) (count : ℕ) (more : Captured) → 1 ≤ count
    → then_events (replicate count event) more
    ≡ then_events (event ∷ []) (then_events (replicate (count - 1) event) more)
first_of_them event zero more some = absurd (omega arith)
first_of_them event (suc n) more some = let e : suc n - 1 ≡ n = omega arith in rw e refl

pub gives_word : (p : Progress) (before now : Option (List ℕ)) (word : ℕ) (event : Event) (count : ℕ) (next : Expected)
    → 0 < p.version → p.left ≡ 0
    → 1 ≤ count → IsWord before now p.offset word
    → GivesEvents event count next ≡ word_step p.version p.expected p.offset word
    → Takes (reader_input p before) (reader_input (progress_after_word p next event (count - 1)) now) (event ∷ [])
gives_word p before now word event count next started none some took is = record {
  taken = took.a ∷ took.b ∷ took.c ∷ took.d ∷ [];
  bytes = took.bytes;
  needed = word_needed p _ started none took.below_limit (omega arith);
  says = λ rest. took_says p before now word (GivesEvents event count next) rest started none took is
      ∙ first_of_them event count (records p.version next (p.offset + 4) rest) some
      ∙ ap (then_events (event ∷ [])) (sym (after_says p next event (count - 1) rest started));
}

-- a repeated event reads no byte
pub gives_repeated : (p : Progress) (left : Option (List ℕ)) → 0 < p.version → 1 ≤ p.left
    → Takes (reader_input p left) (reader_input (record p { left = p.left - 1 }) left) (p.repeated ∷ [])
gives_repeated p left started some = record {
  taken = [];
  bytes = prepended-nil left;
  needed = none_needed p;
  says = λ rest. rw (on p.version started)
      (first_of_them p.repeated p.left (records p.version p.expected p.offset rest) some);
}

-- the meaning of a word that decides a stop
word_stop_says : (p : Progress) (before now : Option (List ℕ)) (word : ℕ) (stop : Stop) → 0 < p.version → p.left ≡ 0
    → (took : IsWord before now p.offset word) → Closes stop ≡ word_step p.version p.expected p.offset word
    → IsWordStop stop
    → SaysStop stop p p.version (took.a ∷ took.b ∷ took.c ∷ took.d ∷ []) now
word_stop_says p before now word End started none took is decided = λ rest. took_says p before now word
    (Closes End) rest started none took is
word_stop_says p before now word (BadRecord byte tag) started none took is decided =
    λ rest. took_says p before now word (Closes (BadRecord byte tag)) rest started none took is
word_stop_says p before now word (NotCapture byte) started none took is decided = absurd decided
word_stop_says p before now word (Truncated byte) started none took is decided = absurd decided
word_stop_says p before now word (TooLong byte) started none took is decided = absurd decided
word_stop_says p before now word (ReadFault byte) started none took is decided = absurd decided

pub word_stops : (p : Progress) (before now : Option (List ℕ)) (word : ℕ) (stop : Stop) → 0 < p.version → p.left ≡ 0
    → IsWord before now p.offset word → Closes stop ≡ word_step p.version p.expected p.offset word → IsWordStop stop
    → StopsAt (reader_input p before) (reader_input p now) stop
word_stops p before now word stop started none took is decided = record {
  taken = took.a ∷ took.b ∷ took.c ∷ took.d ∷ [];
  bytes = took.bytes;
  needed = word_needed p _ started none took.below_limit (omega arith);
  says = word_stop_says p before now word stop started none took is decided;
}

-- ---- steps, one after another

pub takes_none : (at : ReaderInput) → Takes at at []
takes_none at = record {
  taken = [];
  bytes = prepended-nil at.left;
  needed = none_needed at.progress;
  says = λ rest. refl;
}

pub takes_on : (before mid now : ReaderInput) (events : List Event)
    → Takes before mid [] → Takes mid now events → Takes before now events
takes_on before mid now events first next = record {
  taken = first.taken ++ next.taken;
  bytes = taken_on before.left mid.left now.left first.taken next.taken first.bytes next.bytes;
  needed = needed_on before.progress mid.progress first.taken next.taken first.says first.needed next.needed;
  says = λ rest. rw (append_assoc first.taken next.taken rest) (first.says (next.taken ++ rest) ∙ next.says rest);
}

says_on : (p q : Progress) (version : ℕ) (stop : Stop) (xs ys : List ℕ) (now : Option (List ℕ))
    → ((rest : List ℕ) → capture_from p (xs ++ rest) ≡ capture_from q rest)
    → SaysStop stop q version ys now → SaysStop stop p version (xs ++ ys) now
says_on p q version (ReadFault byte) xs ys now moved says = moved ys ∙ says
says_on p q version (Truncated byte) xs ys now moved says = (moved ys ∙ says.0, says.1)
says_on p q version End xs ys now moved says = λ rest. rw (append_assoc xs ys rest) (moved (ys ++ rest) ∙ says rest)
says_on p q version (NotCapture byte) xs ys now moved says = λ rest. rw (append_assoc xs ys rest)
    (moved (ys ++ rest) ∙ says rest)
says_on p q version (TooLong byte) xs ys now moved says = λ rest. rw (append_assoc xs ys rest)
    (moved (ys ++ rest) ∙ says rest)
says_on p q version (BadRecord byte word) xs ys now moved says = λ rest. rw (append_assoc xs ys rest)
    (moved (ys ++ rest) ∙ says rest)

pub stops_on : (before mid now : ReaderInput) (stop : Stop)
    → Takes before mid [] → StopsAt mid now stop → StopsAt before now stop
stops_on before mid now stop first next = record {
  taken = first.taken ++ next.taken;
  bytes = taken_on before.left mid.left now.left first.taken next.taken first.bytes next.bytes;
  needed = needed_on before.progress mid.progress first.taken next.taken first.says first.needed next.needed;
  says = says_on before.progress mid.progress now.progress.version stop first.taken next.taken now.left first.says
      next.says;
}

-- after a word, less remains
pub after_less : (p : Progress) (expected : Expected) (event : Event) (left : ℕ) → p.offset < limit → left < 2 ^ 19
    → work_left (progress_after_word p expected event left) < work_left p
unfolding work_left
after_less p expected event left lt few = omega arith

-- ---- the header

no_version : (version : ℕ) (stop : Stop) (rest : List ℕ) → version ≡ 0 → ended 0 stop rest ≡ ended version stop rest
no_version version stop rest none = rw none refl

-- the meaning of the header and the bytes after it
opened_says : (p : Progress) (bytes rest : List ℕ) → p.version ≡ 0 → length bytes ≡ 8 → capture_from p (bytes ++ rest)
    ≡ opened (head_version bytes) rest
opened_says p (a ∷ b ∷ c ∷ d ∷ e ∷ f ∷ g ∷ h ∷ []) rest unstarted eight =
    let long : nat_lt (length (a ∷ b ∷ c ∷ d ∷ e ∷ f ∷ g ∷ h ∷ rest)) 8 ≡ false = grind arith in
    rw (off p.version unstarted, long) refl
opened_says p [] rest unstarted eight = absurd (omega (arith, eight))
opened_says p (a ∷ []) rest unstarted eight = absurd (omega (arith, eight))
opened_says p (a ∷ b ∷ []) rest unstarted eight = absurd (omega (arith, eight))
opened_says p (a ∷ b ∷ c ∷ []) rest unstarted eight = absurd (omega (arith, eight))
opened_says p (a ∷ b ∷ c ∷ d ∷ []) rest unstarted eight = absurd (omega (arith, eight))
opened_says p (a ∷ b ∷ c ∷ d ∷ e ∷ []) rest unstarted eight = absurd (omega (arith, eight))
opened_says p (a ∷ b ∷ c ∷ d ∷ e ∷ f ∷ []) rest unstarted eight = absurd (omega (arith, eight))
opened_says p (a ∷ b ∷ c ∷ d ∷ e ∷ f ∷ g ∷ []) rest unstarted eight = absurd (omega (arith, eight))
opened_says p (a ∷ b ∷ c ∷ d ∷ e ∷ f ∷ g ∷ h ∷ i ∷ bytes) rest unstarted eight = absurd (omega (arith, eight))

whole : (buf : List ℕ) (before now : Option (List ℕ)) → length buf ≡ 8 → before ≡ prepended (take 8 buf) now
    → before ≡ prepended buf now
whole buf before now eight took = took ∙ ap (λ bytes. prepended bytes now) (take_all 8 buf (omega (arith, eight)))

pub head_takes : (p : Progress) (buf : List ℕ) (before now : Option (List ℕ)) (version : ℕ) → p.version ≡ 0
    → length buf ≡ 8
    → before ≡ prepended (take 8 buf) now → head_version buf ≡ Ok version → 1 ≤ version
    → Takes (reader_input p before) (reader_input (tag_expected version 8) now) []
head_takes p buf before now version unstarted eight took is known = record {
  taken = buf;
  bytes = whole buf before now eight took;
  needed = head_needed p buf unstarted (omega (arith, eight));
  says = λ rest. opened_says p buf rest unstarted eight ∙ ap (λ says. opened says rest) is ∙ rw (on version known) refl;
}

pub head_stops : (p : Progress) (buf : List ℕ) (before now : Option (List ℕ)) (offset : ℕ) → p.version ≡ 0
    → length buf ≡ 8
    → before ≡ prepended (take 8 buf) now → head_version buf ≡ Err offset
    → StopsAt (reader_input p before) (reader_input p now) (NotCapture offset)
head_stops p buf before now offset unstarted eight took is = record {
  taken = buf;
  bytes = whole buf before now eight took;
  needed = head_needed p buf unstarted (omega (arith, eight));
  says = λ rest. opened_says p buf rest unstarted eight ∙ ap (λ says. opened says rest) is
      ∙ no_version p.version (NotCapture offset) rest unstarted;
}

-- fewer than eight bytes
short_says : (p : Progress) (bytes : List ℕ) → p.version ≡ 0 → length bytes < 8 → capture_from p bytes
    ≡ ended p.version (Truncated (length bytes)) []
short_says p bytes unstarted short = let e : nat_lt (length bytes) 8 ≡ true = grind (arith, short) in
    rw (off p.version unstarted, e, unstarted) refl

pub head_short : (p : Progress) (buf : List ℕ) (before now : Option (List ℕ)) (n : ℕ) → p.version ≡ 0 → n ≤ length buf
    → n < 8
    → before ≡ prepended (take n buf) now → IsAtEnd now
    → StopsAt (reader_input p before) (reader_input p now) (Truncated n)
head_short p buf before now n unstarted fits few took at_end =
    let long : length (take n buf) ≡ n = length-take-le n buf fits in record {
      taken = take n buf;
      bytes = took;
      needed = head_needed p (take n buf) unstarted (omega (arith, long, few));
      says = (
        short_says p (take n buf) unstarted (omega (arith, long, few))
            ∙ ap (λ byte. ended p.version (Truncated byte) []) long,
        at_end,
      );
    }

pub head_fails : (p : Progress) (buf : List ℕ) (before now : Option (List ℕ)) (n : ℕ) → p.version ≡ 0 → n ≤ length buf
    → n < 8
    → before ≡ prepended (take n buf) now → StopsAt (reader_input p before) (reader_input p now) (ReadFault n)
head_fails p buf before now n unstarted fits few took =
    let long : length (take n buf) ≡ n = length-take-le n buf fits in record {
      taken = take n buf;
      bytes = took;
      needed = head_needed p (take n buf) unstarted (omega (arith, long, few));
      says = short_says p (take n buf) unstarted (omega (arith, long, few))
          ∙ ap (λ byte. ended p.version (Truncated byte) []) long;
    }
