-- Whole records are read.
use Rattle.std.proofs.Common.{◌≡◌, ◌≤◌, ◌<◌, ◌+◌, ◌*◌, ◌-◌, ◌/◌, ◌%◌, ◌^◌, lit<, ◌++◌, inl, inr, List, [], ◌∷◌, ℕ}
use Rattle.std.proofs.Common.{true, nat_lt, nat_le, length, flat_map, map, refl, ap, append_assoc, length-append}
use Rattle.std.proofs.Common.{◌∙◌, arith, ◌==◌}
use Rattle.gpu_capture.specs.Capture.{capture, then_events, after_step, records, limit, head_of, IsVersion}
use Rattle.gpu_capture.specs.Record.{word_step, tag_step, gp0_expected, ram_expected}
use Rattle.gpu_capture.specs.Written.{word_bytes, tag_of, spelled_end}
use Rattle.gpu_capture.specs.Whole.{Record, Ram, Gp0, Gp1, Reads, Stat, Dma, Begin, Turns, Skips, words_in}
use Rattle.gpu_capture.specs.Whole.{words_from, events_in, AreWords, IsRecord, AreRecords, record_bytes}
use Rattle.gpu_capture.specs.declared.event.Event.TheVariants as event
use Rattle.gpu_capture.specs.declared.event.Stop.TheVariants.{End}
use Rattle.gpu_capture.specs.declared.record.Expected.TheVariants as expected
use Rattle.gpu_capture.specs.declared.record.Start.TheVariants as start
use Rattle.gpu_capture.specs.declared.record.Step.{Step}
use Rattle.gpu_capture.specs.declared.record.Step.TheVariants.{Opens, Gives}
use Rattle.gpu_capture.proofs.Written.{word_read, words_read, words_length, word_length, start_read, head_read}

-- ---- the words of Gp0 and Ram records

gp0_read : (version : ℕ) (words : List ℕ) (left offset : ℕ) (rest : List ℕ) → left ≡ length words → 1 ≤ left
    → AreWords words → offset + 4 * left ≤ limit
    → records version (expected.Gp0 left) offset (flat_map word_bytes words ++ rest)
    ≡ then_events (map event.Gp0 words) (records version expected.Tag (offset + 4 * left) rest)
gp0_read version [] left offset rest is some fit le = absurd (omega (arith, is, some))
gp0_read version (word ∷ []) left offset rest is some fit le =
    let one : left ≡ 1 = omega (arith, is) in
    rw one (words_read version (expected.Gp0 1) offset word [] rest (omega (arith, le, some)) fit.0)
gp0_read version (word ∷ next ∷ words) left offset rest is some fit le =
    let more : nat_lt 1 left ≡ true = grind (arith, is) in
    let less : left - 1 ≡ length (next ∷ words) = omega (arith, is) in
    let after : offset + 4 * left ≡ offset + 4 + 4 * (left - 1) = omega (arith, is) in
    let opens : gp0_expected left ≡ expected.Gp0 (left - 1) = rw more refl in
    words_read version (expected.Gp0 left) offset word (next ∷ words) rest (omega (arith, le, some)) fit.0
    ∙ ap (λ d. then_events (event.Gp0 word ∷ [])
    (records version d (offset + 4) (flat_map word_bytes (next ∷ words) ++ rest))) opens
    ∙ ap (then_events (event.Gp0 word ∷ []))
    (rw after (gp0_read version (next ∷ words) (left - 1) (offset + 4) rest less (omega (arith, is)) fit.1
    (omega (arith, le, is))))

ram_read : (version : ℕ) (words : List ℕ) (address left offset : ℕ) (rest : List ℕ) → left ≡ length words → 1 ≤ left
    → AreWords words → offset + 4 * left ≤ limit
    → records version (expected.Ram address left) offset (flat_map word_bytes words ++ rest)
    ≡ then_events (words_from address words) (records version expected.Tag (offset + 4 * left) rest)
ram_read version [] address left offset rest is some fit le = absurd (omega (arith, is, some))
ram_read version (word ∷ []) address left offset rest is some fit le =
    let one : left ≡ 1 = omega (arith, is) in
    rw one (words_read version (expected.Ram address 1) offset word [] rest (omega (arith, le, some)) fit.0)
ram_read version (word ∷ next ∷ words) address left offset rest is some fit le =
    let more : nat_lt 1 left ≡ true = grind (arith, is) in
    let less : left - 1 ≡ length (next ∷ words) = omega (arith, is) in
    let after : offset + 4 * left ≡ offset + 4 + 4 * (left - 1) = omega (arith, is) in
    let opens : ram_expected address left ≡ expected.Ram (address + 4) (left - 1) = rw more refl in
    words_read version (expected.Ram address left) offset word (next ∷ words) rest (omega (arith, le, some)) fit.0
    ∙ ap (λ d. then_events (event.Ram address word ∷ [])
    (records version d (offset + 4) (flat_map word_bytes (next ∷ words) ++ rest))) opens
    ∙ ap (then_events (event.Ram address word ∷ []))
    (rw after (ram_read version (next ∷ words) (address + 4) (left - 1) (offset + 4) rest less
    (omega (arith, is)) fit.1 (omega (arith, le, is))))

-- ---- tags

module _ (version offset n : ℕ) (few : n < 2 ^ 24) (some : 1 ≤ n) where
  low : nat_le 1 n ≡ true
  low = grind arith

  gp0_tag : tag_step version offset (tag_of 2 n) ≡ Opens (expected.Gp0 n)
  gp0_tag = let k : (33554432 + n) / 16777216 ≡ 2 = omega arith in let c : (33554432 + n) % 16777216
      ≡ n = omega arith in rw (k, c, low) refl

  ram_tag : n ≤ 524288 → tag_step version offset (tag_of 1 n) ≡ Opens (expected.Address n)
  ram_tag le =
      let k : (16777216 + n) / 16777216 ≡ 1 = omega arith in let c : (16777216 + n) % 16777216 ≡ n = omega arith in
      let high : nat_le n 524288 ≡ true = grind arith in rw (k, c, low, high) refl

  reads_tag : n ≤ 262144 → tag_step version offset (tag_of 4 n) ≡ Gives event.Read n expected.Tag
  reads_tag le =
      let k : (67108864 + n) / 16777216 ≡ 4 = omega arith in let c : (67108864 + n) % 16777216 ≡ n = omega arith in
      let high : nat_le n 262144 ≡ true = grind arith in rw (k, c, low, high) refl

  turns_tag : 2 ≤ version → n ≤ 262144 → tag_step version offset (tag_of 8 n) ≡ Gives event.Turn n expected.Tag
  turns_tag known le =
      let k : (134217728 + n) / 16777216 ≡ 8 = omega arith in let c : (134217728 + n) % 16777216 ≡ n = omega arith in
      let on : nat_le 2 version ≡ true = grind arith in
      let high : nat_le n 262144 ≡ true = grind arith in rw (k, c, on, low, high) refl

  skips_tag : 2 ≤ version → n ≤ 262144 → tag_step version offset (tag_of 9 n) ≡ Gives event.Skip n expected.Tag
  skips_tag known le =
      let k : (150994944 + n) / 16777216 ≡ 9 = omega arith in let c : (150994944 + n) % 16777216 ≡ n = omega arith in
      let on : nat_le 2 version ≡ true = grind arith in
      let high : nat_le n 262144 ≡ true = grind arith in rw (k, c, on, low, high) refl

tag_read : (version offset tag : ℕ) (words rest : List ℕ) (step : Step) → offset < limit → tag < 2 ^ 32
    → tag_step version offset tag ≡ step
    → records version expected.Tag offset (flat_map word_bytes (tag ∷ words) ++ rest)
    ≡ after_step version step (λ next. records version next (offset + 4) (flat_map word_bytes words ++ rest))
    (flat_map word_bytes words ++ rest)
tag_read version offset tag words rest step lt fits is =
    words_read version expected.Tag offset tag words rest lt fits
    ∙ ap (λ step. after_step version step
    (λ next. records version next (offset + 4) (flat_map word_bytes words ++ rest))
    (flat_map word_bytes words ++ rest)) is

-- ---- one record

record_read : (version : ℕ) (given : Record) (offset : ℕ) (rest : List ℕ) → IsRecord version given
    → offset + 4 * length (words_in given) ≤ limit
    → records version expected.Tag offset (record_bytes given ++ rest)
    ≡ then_events (events_in given) (records version expected.Tag (offset + 4 * length (words_in given)) rest)
record_read version (Ram address words) offset rest is le =
    let n = length words in
    let few : n < 2 ^ 24 = omega (arith, is.1) in
    let at : offset + 4 + 4 + 4 * n ≡ offset + 4 * length (words_in (Ram address words)) = omega arith in
    let whole : (address % 4 == 0) ≡ true = rw is.2 refl in
    let fits : nat_le (address + 4 * n) 0x200000 ≡ true = grind (arith, is.3) in
    let opens : word_step version (expected.Address n) (offset + 4) address
    ≡ Opens (expected.Ram address n) = rw (whole, fits) refl in
    rw (← at) (tag_read version offset (tag_of 1 n) (address ∷ words) rest (Opens (expected.Address n))
    (omega (arith, le))
    (omega (arith, few)) (ram_tag version offset n few is.0 is.1)
    ∙ words_read version (expected.Address n) (offset + 4) address words rest (omega (arith, le)) (omega (arith, is.3))
    ∙ ap (λ step. after_step version step
    (λ next. records version next (offset + 4 + 4) (flat_map word_bytes words ++ rest))
    (flat_map word_bytes words ++ rest)) opens
    ∙ ram_read version words address n (offset + 4 + 4) rest refl is.0 is.4 (omega (arith, le)))
record_read version (Gp0 words) offset rest is le =
    let n = length words in
    let at : offset + 4 + 4 * n ≡ offset + 4 * length (words_in (Gp0 words)) = omega arith in
    rw (← at) (tag_read version offset (tag_of 2 n) words rest (Opens (expected.Gp0 n)) (omega (arith, le))
    (omega (arith, is.1)) (gp0_tag version offset n is.1 is.0)
    ∙ gp0_read version words n (offset + 4) rest refl is.0 is.2 (omega (arith, le)))
record_read version (Gp1 word) offset rest is le =
    let at : offset + 4 + 4 ≡ offset + 8 = omega arith in
    rw (← at) (words_read version expected.Tag offset (tag_of 3 1) (word ∷ []) rest (omega (arith, le)) (lit< tt)
    ∙ words_read version expected.Gp1 (offset + 4) word [] rest (omega (arith, le)) is)
record_read version (Reads count) offset rest is le =
    let few : count < 2 ^ 24 = omega (arith, is.1) in
    tag_read version offset (tag_of 4 count) [] rest (Gives event.Read count expected.Tag) (omega (arith, le))
    (omega (arith, few)) (reads_tag version offset count few is.0 is.1)
record_read version Stat offset rest is le =
    words_read version expected.Tag offset (tag_of 5 1) [] rest (omega (arith, le))
    (lit< tt)
record_read version (Dma channel madr bcr chcr) offset rest is le =
    elim is.0 [
      | inl two ↦ rw two
          (words_read version expected.Tag offset (tag_of 6 2) (madr ∷ bcr ∷ chcr ∷ []) rest (omega (arith, le))
          (lit< tt)
          ∙ start_read version offset madr bcr chcr (start.Dma 2) rest le is.1 is.2 is.3)
      | inr six ↦ rw six
          (words_read version expected.Tag offset (tag_of 6 6) (madr ∷ bcr ∷ chcr ∷ []) rest (omega (arith, le))
          (lit< tt)
          ∙ start_read version offset madr bcr chcr (start.Dma 6) rest le is.1 is.2 is.3)
    ]
record_read version (Begin madr bcr chcr) offset rest is le =
    let known : nat_le 2 version ≡ true = grind (arith, is.0) in
    let opens : tag_step version offset (tag_of 7 2) ≡ Opens (expected.Madr start.Begin) = rw known refl in
    tag_read version offset (tag_of 7 2) (madr ∷ bcr ∷ chcr ∷ []) rest (Opens (expected.Madr start.Begin))
    (omega (arith, le)) (lit< tt) opens
    ∙ start_read version offset madr bcr chcr start.Begin rest le is.1 is.2 is.3
record_read version (Turns count) offset rest is le =
    let few : count < 2 ^ 24 = omega (arith, is.1.1) in
    tag_read version offset (tag_of 8 count) [] rest (Gives event.Turn count expected.Tag) (omega (arith, le))
    (omega (arith, few)) (turns_tag version offset count few is.1.0 is.0 is.1.1)
record_read version (Skips count) offset rest is le =
    let few : count < 2 ^ 24 = omega (arith, is.1.1) in
    tag_read version offset (tag_of 9 count) [] rest (Gives event.Skip count expected.Tag) (omega (arith, le))
    (omega (arith, few)) (skips_tag version offset count few is.1.0 is.0 is.1.1)

-- ---- all records

records_read : (version : ℕ) (given : List Record) (offset : ℕ) (rest : List ℕ) → AreRecords version given
    → offset + length (flat_map record_bytes given ++ spelled_end) ≤ limit
    → records version expected.Tag offset ((flat_map record_bytes given ++ spelled_end) ++ rest)
    ≡ record { version = version; events = flat_map events_in given; ending = End; rest = rest }
records_read version [] offset rest are le =
    word_read version expected.Tag offset (tag_of 0 0) rest (omega (arith, le, word_length (tag_of 0 0))) (lit< tt)
records_read version (one ∷ given) offset rest are le =
    let later = flat_map record_bytes given ++ spelled_end in
    let long : length (record_bytes one) ≡ 4 * length (words_in one) = words_length (words_in one) in
    let all = ap length (append_assoc (record_bytes one) (flat_map record_bytes given) spelled_end) in
    let both = length-append (record_bytes one) later in
    let most : offset + 4 * length (words_in one) + length later ≤ limit = omega (arith, le, long, all, both) in
    ap (λ bytes. records version expected.Tag offset (bytes ++ rest))
    (append_assoc (record_bytes one) (flat_map record_bytes given) spelled_end)
    ∙ ap (records version expected.Tag offset) (append_assoc (record_bytes one) later rest)
    ∙ record_read version one offset (later ++ rest) are.0 (omega (arith, most))
    ∙ ap (then_events (events_in one)) (records_read version given (offset + 4 * length (words_in one)) rest are.1 most)

pub records_whole : (version : ℕ) (given : List Record) (rest : List ℕ) → IsVersion version → AreRecords version given
    → length (head_of version ++ flat_map record_bytes given ++ spelled_end) ≤ limit
    → capture ((head_of version ++ flat_map record_bytes given ++ spelled_end) ++ rest)
    ≡ record { version = version; events = flat_map events_in given; ending = End; rest = rest }
records_whole version given rest is are le =
    let later = flat_map record_bytes given ++ spelled_end in
    ap (λ bytes. capture (bytes ++ rest)) (append_assoc (head_of version) (flat_map record_bytes given) spelled_end)
    ∙ ap capture (append_assoc (head_of version) later rest)
    ∙ head_read version (later ++ rest) is
    ∙ records_read version given 8 rest are (omega (arith, le))
