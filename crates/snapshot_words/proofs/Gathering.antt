-- Parts of a state, word by word.
use Rattle.std.proofs.Common.{◌≡◌, ◌<◌, ◌+◌, ◌-◌, ◌/◌, ◌%◌, ◌^◌, ◌++◌, ◌*◌, if◌then◌else◌, List, [], ◌∷◌, ℕ, Option}
use Rattle.std.proofs.Common.{true, false, length, take, slice_index, refl, ap, sym, ◌∙◌, append_assoc, append-nil}
use Rattle.std.proofs.Common.{arith, inl, inr, suc, ◌≤◌, length-append}
use Rattle.std.proofs.lemmas.Bool.{cases_lt}
use Rattle.std.proofs.lemmas.List.{length_push, take-append-le, take_all, get_or_append_left, get_or-append_right}
use Rattle.byteorder.specs.Endian.{little_number, little_bytes}
use Rattle.dev_io.specs.Device.{prepended, Gives}
use Rattle.dev_io.proofs.Parts.{prepended-nil, taken_on}
use Rattle.gpu_capture.specs.declared.event.Stop.TheVariants.{End, NotCapture, BadRecord, TooLong, Truncated, ReadFault}
use Rattle.gpu_capture.proofs.Steps.{split}
use Rattle.snapshot_words.specs.Sections.{allows, wants, AreAllowed}
use Rattle.byteorder.specs.Numbers.{little_number-reads_back}
use Rattle.gpu_capture.specs.Written.{word_bytes}
use Rattle.snapshot_words.specs.Outline.{bytes_of}
use Rattle.snapshot_words.specs.Reading.{Found, Whole, Short, Bad, section_from}
use Rattle.snapshot_words.specs.Taking.{IsWord, EndsWord, SaysNoWord, Goes, Takes, SaysFault, Stops, AreNeeded}
use Rattle.snapshot_words.specs.Taking.{Remainder, remainder}
use Rattle.snapshot_words.specs.declared.fault.SnapFault.{SnapFault}
use Rattle.snapshot_words.specs.declared.fault.SnapFault.TheVariants as fault
use Rattle.snapshot_words.specs.declared.section.Section.{Section}

-- ---- the meaning of the next bytes

pub whole_stays : (s : Section) (got : List ℕ) (offset : ℕ) (bytes : List ℕ) → wants s got ≡ false
    → section_from s got offset bytes ≡ Whole got offset bytes
whole_stays s got offset [] full = rw full refl
whole_stays s got offset (a ∷ []) full = rw full refl
whole_stays s got offset (a ∷ b ∷ []) full = rw full refl
whole_stays s got offset (a ∷ b ∷ c ∷ []) full = rw full refl
whole_stays s got offset (a ∷ b ∷ c ∷ d ∷ rest) full = rw full refl

plus_none : (n : ℕ) → n ≡ n + 0
plus_none n = omega arith

pub breaks_off : (s : Section) (got : List ℕ) (offset : ℕ) (bytes : List ℕ) → wants s got ≡ true → length bytes < 4
    → section_from s got offset bytes ≡ Short (offset + length bytes)
breaks_off s got offset [] due few = rw due (ap Short (plus_none offset))
breaks_off s got offset (a ∷ []) due few = rw due refl
breaks_off s got offset (a ∷ b ∷ []) due few = rw due refl
breaks_off s got offset (a ∷ b ∷ c ∷ []) due few = rw due refl
breaks_off s got offset (a ∷ b ∷ c ∷ d ∷ rest) due few = absurd (omega arith)

-- ---- words and their bytes

pub number_of_bytes : (a b c d : ℕ) → a < 256 → b < 256 → c < 256 → d < 256
    → word_bytes (little_number 4 (a ∷ b ∷ c ∷ d ∷ [])) ≡ a ∷ b ∷ c ∷ d ∷ []
unfolding word_bytes
number_of_bytes a b c d p q r t =
    let n = little_number 4 (a ∷ b ∷ c ∷ d ∷ []) in
    let first : n % 256 ≡ a = omega (arith, p, q, r, t) in
    let second : n / 2 ^ 8 % 256 ≡ b = omega (arith, p, q, r, t) in
    let third : n / 2 ^ 16 % 256 ≡ c = omega (arith, p, q, r, t) in
    let fourth : n / 2 ^ 24 % 256 ≡ d = omega (arith, p, q, r, t) in
    rw (first, second, third, fourth) refl

-- the four bytes of a word, and their meaning
pub word_split : (s : Section) (got : List ℕ) (offset word : ℕ) (rest : List ℕ) → wants s got ≡ true → word < 2 ^ 32
    → section_from s got offset (word_bytes word ++ rest)
    ≡ (if allows s got word then section_from s (got ++ word ∷ []) (offset + 4) rest else Bad offset word)
unfolding word_bytes
word_split s got offset word rest due fits =
    let back : little_number 4 (little_bytes 4 word ++ []) ≡ word = little_number-reads_back 4 word [] fits in
    rw due (ap (λ w. if allows s got w then section_from s (got ++ w ∷ []) (offset + 4) rest else Bad offset w) back)

pub bytes_on : (got : List ℕ) (word : ℕ) → bytes_of (got ++ word ∷ []) ≡ bytes_of got ++ word_bytes word
bytes_on [] word = append-nil (word_bytes word)
bytes_on (w ∷ got) word =
    ap (λ bytes. word_bytes w ++ bytes) (bytes_on got word)
    ∙ sym (append_assoc (word_bytes w) (bytes_of got) (word_bytes word))

pub next_word : (s : Section) (got : List ℕ) (offset word : ℕ) (rest : List ℕ) → wants s got ≡ true
    → allows s got word ≡ true
    → word < 2 ^ 32
    → section_from s got offset (word_bytes word ++ rest) ≡ section_from s (got ++ word ∷ []) (offset + 4) rest
next_word s got offset word rest due may fits = word_split s got offset word rest due fits ∙ (rw may refl)

pub bad_word : (s : Section) (got : List ℕ) (offset word : ℕ) (rest : List ℕ) → wants s got ≡ true
    → allows s got word ≡ false
    → word < 2 ^ 32 → section_from s got offset (word_bytes word ++ rest) ≡ Bad offset word
bad_word s got offset word rest due may fits = word_split s got offset word rest due fits ∙ (rw may refl)

-- ---- needed bytes

pub part_shorter : (taken part more : List ℕ) → taken ≡ part ++ more → (more ≡ [] → ⊥) → length part < length taken
part_shorter taken part [] is some = absurd (some refl)
part_shorter taken part (x ∷ xs) is some =
    let e : length taken ≡ length part + suc (length xs) = ap length is ∙ length-append part (x ∷ xs) in
    omega (arith, e)

-- bytes, and others after them
pub needed_on : {A : Type 0} (found : List ℕ → Found A) (xs ys : List ℕ) → AreNeeded found xs
    → AreNeeded (λ part. found (xs ++ part)) ys → AreNeeded found (xs ++ ys)
needed_on found xs ys first next part more is some =
    elim (split xs ys part more is) [
      | inl after ↦ rw after.1 (next after.0 more after.2 some)
      | inr inside ↦ first part inside.0 inside.1 inside.2
    ]

word_long : (word : ℕ) → length (word_bytes word) ≤ 4
unfolding word_bytes
word_long word = omega arith

few_of_word : (why : SnapFault) (offset : ℕ) (taken : List ℕ) (now : Option (List ℕ)) → SaysNoWord why offset taken now
    → length taken ≤ 4
few_of_word (fault.Stop (Truncated byte)) offset taken now says = omega (arith, says.0)
few_of_word (fault.Stop (ReadFault byte)) offset taken now says = omega (arith, says.0)
few_of_word (fault.Stop End) offset taken now says = absurd says
few_of_word (fault.Stop (NotCapture byte)) offset taken now says = absurd says
few_of_word (fault.Stop (BadRecord byte word)) offset taken now says = absurd says
few_of_word (fault.Stop (TooLong byte)) offset taken now says = absurd says
few_of_word (fault.Bad byte word) offset taken now says = absurd says

-- ---- from word to word

pub goes_start : (s : Section) (at : Remainder) → Goes s at at []
goes_start s at = record {
  bytes = prepended-nil at.left;
  needed = λ part more is some. absurd (let short = part_shorter [] part more is some in omega (arith, short));
  says = λ rest. refl;
}

module _ (s : Section) (before mid : Remainder) (now : Option (List ℕ)) (got : List ℕ)
    (goes : Goes s before mid got) where
  short_says : (taken : List ℕ) → wants s got ≡ true → length taken < 4
      → section_from s [] before.offset ((bytes_of got) ++ taken) ≡ Short (mid.offset + length taken)
  short_says taken due few = goes.says taken ∙ breaks_off s got mid.offset taken due few

  -- at most the bytes of the next word are needed
  needed_next : (taken : List ℕ) → wants s got ≡ true → length taken ≤ 4
      → AreNeeded (section_from s [] before.offset) (bytes_of got ++ taken)
  needed_next taken due few =
      needed_on (section_from s [] before.offset) (bytes_of got) taken goes.needed
      (λ part more is some.
      let short = part_shorter taken part more is some in rw (short_says part due (omega (arith, short, few))) tt)

  pub goes_on : (word : ℕ) → IsWord mid.left now word → wants s got ≡ true → allows s got word ≡ true
      → Goes s before (remainder (mid.offset + 4) now) (got ++ word ∷ [])
  goes_on word took due may = record {
    bytes = rw (bytes_on got word)
        (taken_on before.left mid.left now (bytes_of got) (word_bytes word) goes.bytes took.bytes);
    needed = rw (bytes_on got word) (needed_next (word_bytes word) due (word_long word));
    says = λ rest. rw (bytes_on got word, append_assoc (bytes_of got) (word_bytes word) rest)
        (goes.says (word_bytes word ++ rest) ∙ next_word s got mid.offset word rest due may took.fits);
  }

  pub bad_stops : (word : ℕ) → IsWord mid.left now word → wants s got ≡ true → allows s got word ≡ false
      → Stops (section_from s [] before.offset) before.left now (fault.Bad mid.offset word)
  bad_stops word took due may = record {
    taken = bytes_of got ++ word_bytes word;
    bytes = taken_on before.left mid.left now (bytes_of got) (word_bytes word) goes.bytes took.bytes;
    needed = needed_next (word_bytes word) due (word_long word);
    says = λ rest. rw (append_assoc (bytes_of got) (word_bytes word) rest)
        (goes.says (word_bytes word ++ rest) ∙ bad_word s got mid.offset word rest due may took.fits);
  }

  fault_says : (why : SnapFault) (taken : List ℕ) → wants s got ≡ true → SaysNoWord why mid.offset taken now
      → SaysFault why (section_from s [] before.offset) ((bytes_of got) ++ taken) now
  fault_says (fault.Stop (Truncated byte)) taken due says = (rw says.1 (short_says taken due says.0), says.2)
  fault_says (fault.Stop (ReadFault byte)) taken due says = rw says.1 (short_says taken due says.0)
  fault_says (fault.Stop End) taken due says = absurd says
  fault_says (fault.Stop (NotCapture byte)) taken due says = absurd says
  fault_says (fault.Stop (BadRecord byte word)) taken due says = absurd says
  fault_says (fault.Stop (TooLong byte)) taken due says = absurd says
  fault_says (fault.Bad byte word) taken due says = absurd says

  pub no_word_stops : (why : SnapFault) → EndsWord mid.left now mid.offset why → wants s got ≡ true
      → Stops (section_from s [] before.offset) before.left now why
  no_word_stops why lack due = record {
    taken = (bytes_of got) ++ lack.taken;
    bytes = taken_on before.left mid.left now (bytes_of got) lack.taken goes.bytes lack.bytes;
    needed = needed_next lack.taken due (few_of_word why mid.offset lack.taken now lack.says);
    says = fault_says why lack.taken due lack.says;
  }

pub goes_whole : (s : Section) (before now : Remainder) (got : List ℕ)
    → Goes s before now got → now.offset ≡ before.offset + 4 * length got → wants s got ≡ false
    → Takes s before now got
goes_whole s before now got goes moved full = record {
  bytes = goes.bytes;
  needed = goes.needed;
  moved = moved;
  says = λ rest. goes.says rest ∙ whole_stays s got now.offset rest full;
}

-- ---- every word was needed and is allowed

pub none_allowed : (s : Section) → AreAllowed s []
none_allowed s =
    record { due = λ i h. absurd (omega arith); each = λ i h. absurd (omega arith); fits = λ i h. absurd (omega arith) }

pub minus_self : (n : ℕ) → n - n ≡ 0
minus_self n = omega arith

-- a fact at each index of a list with one more word
at_each : (P : List ℕ → ℕ → Type 0) (got : List ℕ) (word : ℕ)
    → ((i : ℕ) → i < length got → P (take i got) (slice_index got i)) → P got word
    → (i : ℕ) → i < length (got ++ word ∷ []) → P (take i (got ++ word ∷ [])) (slice_index (got ++ word ∷ []) i)
at_each P got word were new i within =
    elim (cases_lt i (length got)) [
      | inl old ↦
          let front : take i (got ++ word ∷ []) ≡ take i got = take-append-le i got (word ∷ []) (omega (arith, old)) in
          let same : slice_index (got ++ word ∷ []) i ≡ slice_index got i =
          get_or_append_left got (word ∷ []) 0 i old in
          rw (front, same) (were i old)
      | inr last ↦
          let is : i ≡ length got = omega (arith, last, within, length_push got word) in
          let front : take (length got) (got ++ word ∷ []) ≡ got =
          take-append-le (length got) got (word ∷ []) (omega arith) ∙ take_all (length got) got (omega arith) in
          let end : slice_index (got ++ word ∷ []) (length got) ≡ word =
          get_or-append_right got (word ∷ []) (length got) (length got) 0 refl (omega arith)
          ∙ ap (slice_index (word ∷ [])) (minus_self (length got)) in
          rw (is, front, end) new
    ]

pub allowed_on : (s : Section) (got : List ℕ) (word : ℕ) → AreAllowed s got → wants s got ≡ true
    → allows s got word ≡ true → word < 2 ^ 32
    → AreAllowed s (got ++ word ∷ [])
allowed_on s got word were due may fits = record {
  due = at_each (λ before w. wants s before ≡ true) got word were.due due;
  each = at_each (λ before w. allows s before w ≡ true) got word were.each may;
  fits = at_each (λ before w. w < 2 ^ 32) got word were.fits fits;
}

-- the bytes of the word in a buffer
pub buffer_back : (buf : List ℕ) (word : ℕ) → length buf ≡ 4 → ((i : ℕ) → slice_index buf i < 256)
    → word ≡ little_number 4 buf → word_bytes word ≡ buf
buffer_back [] word long fit is = absurd (omega arith)
buffer_back (a ∷ []) word long fit is = absurd (omega arith)
buffer_back (a ∷ b ∷ []) word long fit is = absurd (omega arith)
buffer_back (a ∷ b ∷ c ∷ []) word long fit is = absurd (omega arith)
buffer_back (a ∷ b ∷ c ∷ d ∷ []) word long fit is = rw is (number_of_bytes a b c d (fit 0) (fit 1) (fit 2) (fit 3))
buffer_back (a ∷ b ∷ c ∷ d ∷ e ∷ more) word long fit is = absurd (omega arith)

-- a full buffer is a word
pub gave_word : (before now : Option (List ℕ)) (buf : List ℕ) (n word : ℕ) → n ≡ 4 → length buf ≡ 4
    → word_bytes word ≡ buf → word < 2 ^ 32
    → Gives before now buf n → IsWord before now word
gave_word before now buf n word four long is fits gives = record {
  bytes = rw is (gives.bytes ∙ ap (λ bytes. prepended bytes now) (take_all n buf (omega (arith, four, long))));
  fits = fits;
}
