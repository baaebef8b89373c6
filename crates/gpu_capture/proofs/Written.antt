-- What is written is read again.
use Rattle.std.proofs.Common.{◌⊎◌, ◌≡◌, ◌≤◌, ◌<◌, ◌+◌, ◌*◌, ◌%◌, ◌^◌, lit<, ◌++◌, inl, inr, List, [], ◌∷◌, ℕ, true}
use Rattle.std.proofs.Common.{false, nat_lt, nat_le, length, flat_map, refl, ap, append_assoc, length-append, ◌∙◌}
use Rattle.std.proofs.Common.{arith, ◌==◌}
use Rattle.byteorder.specs.Endian.{little_number, little_bytes}
use Rattle.byteorder.specs.Numbers.{little_number-reads_back}
use Rattle.gpu_capture.specs.Capture.{capture, then_events, after_step, records, limit, head_of, IsVersion}
use Rattle.gpu_capture.specs.Record.{word_step, started_by}
use Rattle.gpu_capture.specs.Written.{word_bytes, record_words, spelled, spelled_end, written, tag_of, Allows}
use Rattle.gpu_capture.specs.Written.{AllowsAll}
use Rattle.gpu_capture.specs.declared.event.Event.{Event}
use Rattle.gpu_capture.specs.declared.event.Event.TheVariants as event
use Rattle.gpu_capture.specs.declared.event.Stop.TheVariants.{End}
use Rattle.gpu_capture.specs.declared.record.Expected.{Expected}
use Rattle.gpu_capture.specs.declared.record.Expected.TheVariants as expected
use Rattle.gpu_capture.specs.declared.record.Start.TheVariants as start
use Rattle.gpu_capture.specs.declared.record.Step.TheVariants.{Opens, Gives as GivesEvents}

pub word_length : (word : ℕ) → length (word_bytes word) ≡ 4
unfolding word_bytes
word_length word = refl

-- a word that was written is read again
pub word_read : (version : ℕ) (at : Expected) (offset word : ℕ) (rest : List ℕ) → offset < limit → word < 2 ^ 32
    → records version at offset (word_bytes word ++ rest)
    ≡ after_step version (word_step version at offset word) (λ next. records version next (offset + 4) rest) rest
unfolding word_bytes
word_read version at offset word rest lt fits =
    let within : nat_lt offset limit ≡ true = grind arith in
    let back : little_number 4 (little_bytes 4 word ++ []) ≡ word = little_number-reads_back 4 word [] fits in
    rw within (ap
    (λ w. after_step version (word_step version at offset w) (λ next. records version next (offset + 4) rest) rest)
    back)

-- the same if words follow
pub words_read : (version : ℕ) (at : Expected) (offset word : ℕ) (words rest : List ℕ) → offset < limit → word < 2 ^ 32
    → records version at offset (flat_map word_bytes (word ∷ words) ++ rest)
    ≡ after_step version (word_step version at offset word)
    (λ next. records version next (offset + 4) (flat_map word_bytes words ++ rest)) (flat_map word_bytes words ++ rest)
words_read version at offset word words rest lt fits =
    ap (records version at offset) (append_assoc (word_bytes word) (flat_map word_bytes words) rest)
    ∙ word_read version at offset word (flat_map word_bytes words ++ rest) lt fits

pub words_length : (words : List ℕ) → length (flat_map word_bytes words) ≡ 4 * length words
words_length [] = refl
words_length (word ∷ words) =
    let e = length-append (word_bytes word) (flat_map word_bytes words) in
    omega (arith, e, word_length word, words_length words)

-- ---- one record

abbrev Reads : (version : ℕ) (given : Event) (offset : ℕ) (rest : List ℕ) → Type 0
Reads version given offset rest =
    records version expected.Tag offset (spelled given ++ rest)
    ≡ then_events (given ∷ []) (records version expected.Tag (offset + 4 * length (record_words given)) rest)

-- the words after the tag of a start: of either channel, or in turns
pub start_read : (version offset madr bcr chcr : ℕ) (by : start.the_data) (rest : List ℕ) → offset + 16 ≤ limit
    → madr < 2 ^ 32 → bcr < 2 ^ 32 → chcr < 2 ^ 32
    → records version (expected.Madr by) (offset + 4) (flat_map word_bytes (madr ∷ bcr ∷ chcr ∷ []) ++ rest)
    ≡ then_events (started_by by madr bcr chcr ∷ []) (records version expected.Tag (offset + 16) rest)
start_read version offset madr bcr chcr by rest le a b c =
    let e : offset + 4 + 4 + 4 + 4 ≡ offset + 16 = omega arith in
    rw (← e) (words_read version (expected.Madr by) (offset + 4) madr (bcr ∷ chcr ∷ []) rest (omega arith) a
    ∙ words_read version (expected.Bcr by madr) (offset + 4 + 4) bcr (chcr ∷ []) rest (omega arith) b
    ∙ words_read version (expected.Chcr by madr bcr) (offset + 4 + 4 + 4) chcr [] rest (omega arith) c)

pub two_words : (offset : ℕ) → offset + 4 + 4 ≡ offset + 8
two_words offset = omega arith

three_words : (offset : ℕ) → offset + 4 + 4 + 4 ≡ offset + 12
three_words offset = omega arith

event_read : (version : ℕ) (given : Event) (offset : ℕ) (rest : List ℕ) → Allows version given
    → offset + 4 * length (record_words given) ≤ limit
    → Reads version given offset rest
event_read version (event.Ram address word) offset rest allows le =
    let whole : (address % 4 == 0) ≡ true = rw allows.event.1 refl in
    let fits : nat_le (address + 4) 0x200000 ≡ true = grind (arith, allows.event.0, allows.event.1) in
    let small : address < 2 ^ 32 = omega (arith, allows.event.0) in
    let opens : word_step version (expected.Address 1) (offset + 4) address
    ≡ Opens (expected.Ram address 1) = rw (whole, fits) refl in
    rw (← three_words offset)
    (words_read version expected.Tag offset (tag_of 1 1) (address ∷ word ∷ []) rest (omega (arith, le)) (lit< tt)
    ∙ words_read version (expected.Address 1) (offset + 4) address (word ∷ []) rest (omega (arith, le)) small
    ∙ ap (λ step. after_step version step
    (λ next. records version next (offset + 4 + 4) (flat_map word_bytes (word ∷ []) ++ rest))
    (flat_map word_bytes (word ∷ []) ++ rest)) opens
    ∙ words_read version (expected.Ram address 1) (offset + 4 + 4) word [] rest (omega (arith, le)) allows.words)
event_read version (event.Gp0 word) offset rest allows le =
    rw (← two_words offset)
    (words_read version expected.Tag offset (tag_of 2 1) (word ∷ []) rest (omega (arith, le)) (lit< tt)
    ∙ words_read version (expected.Gp0 1) (offset + 4) word [] rest (omega (arith, le)) allows.words)
event_read version (event.Gp1 word) offset rest allows le =
    rw (← two_words offset)
    (words_read version expected.Tag offset (tag_of 3 1) (word ∷ []) rest (omega (arith, le)) (lit< tt)
    ∙ words_read version expected.Gp1 (offset + 4) word [] rest (omega (arith, le)) allows.words)
event_read version event.Read offset rest allows le =
    words_read version expected.Tag offset (tag_of 4 1) [] rest (omega (arith, le)) (lit< tt)
event_read version event.Stat offset rest allows le =
    words_read version expected.Tag offset (tag_of 5 1) [] rest (omega (arith, le)) (lit< tt)
event_read version (event.Dma channel madr bcr chcr) offset rest allows le =
    elim allows.event [
      | inl two ↦ rw two
          (words_read version expected.Tag offset (tag_of 6 2) (madr ∷ bcr ∷ chcr ∷ []) rest (omega (arith, le))
          (lit< tt)
          ∙ start_read version offset madr bcr chcr (start.Dma 2) rest le allows.words.0 allows.words.1 allows.words.2)
      | inr six ↦ rw six
          (words_read version expected.Tag offset (tag_of 6 6) (madr ∷ bcr ∷ chcr ∷ []) rest (omega (arith, le))
          (lit< tt)
          ∙ start_read version offset madr bcr chcr (start.Dma 6) rest le allows.words.0 allows.words.1 allows.words.2)
    ]
event_read version (event.Begin madr bcr chcr) offset rest allows le =
    let known : nat_le 2 version ≡ true = grind (arith, allows.known) in
    let opens : word_step version expected.Tag offset (tag_of 7 2) ≡ Opens (expected.Madr start.Begin) =
    rw known refl in
    words_read version expected.Tag offset (tag_of 7 2) (madr ∷ bcr ∷ chcr ∷ []) rest (omega (arith, le)) (lit< tt)
    ∙ ap (λ step. after_step version step
    (λ next. records version next (offset + 4) (flat_map word_bytes (madr ∷ bcr ∷ chcr ∷ []) ++ rest))
    (flat_map word_bytes (madr ∷ bcr ∷ chcr ∷ []) ++ rest)) opens
    ∙ start_read version offset madr bcr chcr start.Begin rest le allows.words.0 allows.words.1 allows.words.2
event_read version event.Turn offset rest allows le =
    let known : nat_le 2 version ≡ true = grind (arith, allows.known) in
    let gives : word_step version expected.Tag offset (tag_of 8 1) ≡ GivesEvents event.Turn 1 expected.Tag =
    rw known refl in
    words_read version expected.Tag offset (tag_of 8 1) [] rest (omega (arith, le)) (lit< tt)
    ∙ ap (λ step. after_step version step (λ next. records version next (offset + 4) rest) rest) gives
event_read version event.Skip offset rest allows le =
    let known : nat_le 2 version ≡ true = grind (arith, allows.known) in
    let gives : word_step version expected.Tag offset (tag_of 9 1) ≡ GivesEvents event.Skip 1 expected.Tag =
    rw known refl in
    words_read version expected.Tag offset (tag_of 9 1) [] rest (omega (arith, le)) (lit< tt)
    ∙ ap (λ step. after_step version step (λ next. records version next (offset + 4) rest) rest) gives

-- ---- all records

pub events_read : (version : ℕ) (events : List Event) (offset : ℕ) (rest : List ℕ) → AllowsAll version events
    → offset + length (flat_map spelled events ++ spelled_end) ≤ limit
    → records version expected.Tag offset ((flat_map spelled events ++ spelled_end) ++ rest)
    ≡ record { version = version; events = events; ending = End; rest = rest }
events_read version [] offset rest allows le =
    word_read version expected.Tag offset (tag_of 0 0) rest (omega (arith, le, word_length (tag_of 0 0))) (lit< tt)
events_read version (given ∷ events) offset rest allows le =
    let later = flat_map spelled events ++ spelled_end in
    let long : length (spelled given) ≡ 4 * length (record_words given) = words_length (record_words given) in
    let all = ap length (append_assoc (spelled given) (flat_map spelled events) spelled_end) in
    let both = length-append (spelled given) later in
    let most : offset + 4 * length (record_words given) + length later ≤ limit = omega (arith, le, long, all, both) in
    ap (λ bytes. records version expected.Tag offset (bytes ++ rest))
    (append_assoc (spelled given) (flat_map spelled events) spelled_end)
    ∙ ap (records version expected.Tag offset) (append_assoc (spelled given) later rest)
    ∙ event_read version given offset (later ++ rest) allows.0 (omega (arith, most))
    ∙ ap (then_events (given ∷ []))
    (events_read version events (offset + 4 * length (record_words given)) rest allows.1 most)

three_versions : (version : ℕ) → IsVersion version → (version ≡ 1) ⊎ ((version ≡ 2) ⊎ (version ≡ 3))
three_versions version is = grind (arith, is.0, is.1)

eight_bytes : (version : ℕ) (bytes : List ℕ) → nat_lt (length (head_of version ++ bytes)) 8 ≡ false
eight_bytes version bytes = grind arith

-- the header that was written is read again
pub head_read : (version : ℕ) (bytes : List ℕ) → IsVersion version → capture (head_of version ++ bytes)
    ≡ records version expected.Tag 8 bytes
head_read version bytes is =
    elim (three_versions version is) [
      | inl one ↦ rw (one, eight_bytes 1 bytes) refl
      | inr others ↦ elim others
          [ inl two ↦ rw (two, eight_bytes 2 bytes) refl | inr three ↦ rw (three, eight_bytes 3 bytes) refl ]
    ]

pub written_read : (version : ℕ) (events : List Event) (rest : List ℕ) → IsVersion version → AllowsAll version events
    → length (written version events) ≤ limit
    → capture (written version events ++ rest)
    ≡ record { version = version; events = events; ending = End; rest = rest }
written_read version events rest is allows le =
    let later = flat_map spelled events ++ spelled_end in
    ap (λ bytes. capture (bytes ++ rest)) (append_assoc (head_of version) (flat_map spelled events) spelled_end)
    ∙ ap capture (append_assoc (head_of version) later rest)
    ∙ head_read version (later ++ rest) is
    ∙ events_read version events 8 rest allows (omega (arith, le))
