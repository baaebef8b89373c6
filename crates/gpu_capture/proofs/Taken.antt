-- How many bytes are read: as many as a reader's offset, and after the header at most 16 a call.
use Rattle.std.proofs.Common.{◌≡◌, ◌≤◌, ◌<◌, ◌+◌, ◌*◌, ◌%◌, ◌&&◌, ◌==◌, ◌++◌, ℕ, zero, suc, List, [], ◌∷◌, Bool}
use Rattle.std.proofs.Common.{true, false, cond, nat_lt, nat_le, min, length, take, drop, Result, Ok, Err, refl, ap}
use Rattle.std.proofs.Common.{sym, subst, inl, inr, append-nil, ◌∙◌, arith, replicate}
use Rattle.std.proofs.lemmas.Bool.{cases_Bool, cases_lt}
use Rattle.std.proofs.lemmas.Bool.Decides.{nat_tests}
use Rattle.std.proofs.lemmas.List.{take-append-drop, length-drop, length-take-le}
use Rattle.gpu_capture.specs.Capture.{Captured, after_step, capture, limit, opened, records, head_version, then_events}
use Rattle.gpu_capture.specs.Reader.{AreNeeded, IsStart, capture_from}
use Rattle.gpu_capture.specs.Record.{IsWordStop, count_of, kind_of, is_repeats, word_step}
use Rattle.gpu_capture.specs.declared.event.Event.{Event}
use Rattle.gpu_capture.specs.declared.event.Event.TheVariants as event
use Rattle.gpu_capture.specs.declared.event.Stop.{Stop}
use Rattle.gpu_capture.specs.declared.event.Stop.TheVariants.{End, NotCapture, BadRecord, Truncated, TooLong, ReadFault}
use Rattle.gpu_capture.specs.declared.progress.Progress.{Progress}
use Rattle.gpu_capture.specs.declared.record.Expected.{Expected}
use Rattle.gpu_capture.specs.declared.record.Expected.TheVariants as expected
use Rattle.gpu_capture.specs.declared.record.Start.TheVariants as start
use Rattle.gpu_capture.specs.declared.record.Step.{Step}
use Rattle.gpu_capture.specs.declared.record.Step.TheVariants.{Opens, Gives, Closes}

-- ---- one word

-- the most words up to an event or a stop, from this one on
abbrev words_to : Expected → ℕ
words_to expected.Tag = 4
words_to (expected.Address count) = 2
words_to (expected.Ram address left) = 1
words_to (expected.Gp0 left) = 1
words_to expected.Gp1 = 1
words_to (expected.Madr by) = 3
words_to (expected.Bcr by madr) = 2
words_to (expected.Chcr by madr bcr) = 1

-- a step gives an event or a stop, or fewer than `n` words remain up to one
abbrev Leads : ℕ → Step → Type 0
Leads n (Opens next) = words_to next < n
Leads n (Gives e count next) = 1 ≤ count
Leads n (Closes stop) = IsWordStop stop

by_tests : (offset tag count : ℕ) (a b c d e f g h i j : Bool)
    → (e ≡ true → 1 ≤ count) → (i ≡ true → 1 ≤ count) → (j ≡ true → 1 ≤ count)
    → Leads 4 (cond a (Closes End) (cond b (Opens (expected.Address count)) (cond c (Opens (expected.Gp0 count))
    (cond d (Opens expected.Gp1) (cond e (Gives event.Read count expected.Tag) (cond f (Gives event.Stat 1 expected.Tag)
    (cond g (Opens (expected.Madr (start.Dma count))) (cond h (Opens (expected.Madr start.Begin))
    (cond i (Gives event.Turn count expected.Tag) (cond j (Gives event.Skip count expected.Tag)
    (Closes (BadRecord offset tag))))))))))))
by_tests offset tag count true b c d e f g h i j read turn skip = tt
by_tests offset tag count false true c d e f g h i j read turn skip = omega arith
by_tests offset tag count false false true d e f g h i j read turn skip = omega arith
by_tests offset tag count false false false true e f g h i j read turn skip = omega arith
by_tests offset tag count false false false false true f g h i j read turn skip = read refl
by_tests offset tag count false false false false false true g h i j read turn skip = omega arith
by_tests offset tag count false false false false false false true h i j read turn skip = omega arith
by_tests offset tag count false false false false false false false true i j read turn skip = omega arith
by_tests offset tag count false false false false false false false false true j read turn skip = turn refl
by_tests offset tag count false false false false false false false false false true read turn skip = skip refl
by_tests offset tag count false false false false false false false false false false read turn skip = tt

some_repeats : (kind count n : ℕ) → (kind == n && is_repeats count) ≡ true → 1 ≤ count
some_repeats kind count n is = grind (arith, nat_tests, is)

some_known : (version kind count n : ℕ) → (kind == n && (nat_le 2 version && is_repeats count)) ≡ true → 1 ≤ count
some_known version kind count n is = grind (arith, nat_tests, is)

by_address : (b : Bool) (address count byte word : ℕ)
    → Leads 2 (cond b (Opens (expected.Ram address count)) (Closes (BadRecord byte word)))
by_address true address count byte word = omega arith
by_address false address count byte word = tt

step_leads : (version : ℕ) (at : Expected) (offset word : ℕ) → Leads (words_to at) (word_step version at offset word)
step_leads version expected.Tag offset word =
    let kind = kind_of word in
    let count = count_of word in
    by_tests offset word count _ _ _ _ _ _ _ _ _ _
    (some_repeats kind count 4) (some_known version kind count 8) (some_known version kind count 9)
step_leads version (expected.Address count) offset word = by_address _ word count offset word
step_leads version (expected.Ram address left) offset word = omega arith
step_leads version (expected.Gp0 left) offset word = omega arith
step_leads version expected.Gp1 offset word = omega arith
step_leads version (expected.Madr by) offset word = omega arith
step_leads version (expected.Bcr by madr) offset word = omega arith
step_leads version (expected.Chcr by madr bcr) offset word = omega arith

-- ---- how many bytes there are, by how a capture of them ends

-- `n` bytes: if they are truncated, the stop names `n`; if they are too long, `n` is the limit plus the bytes after it
abbrev Counts : ℕ → Stop → List ℕ → Type 0
Counts n (Truncated byte) rest = byte ≡ n
Counts n (TooLong byte) rest = n ≡ limit + length rest
Counts n other rest = Unit {0}

by_word : (n : ℕ) (stop : Stop) (rest : List ℕ) → IsWordStop stop → Counts n stop rest
by_word n End rest is = tt
by_word n (BadRecord byte word) rest is = tt
by_word n (NotCapture byte) rest is = absurd is
by_word n (Truncated byte) rest is = absurd is
by_word n (TooLong byte) rest is = absurd is
by_word n (ReadFault byte) rest is = absurd is

after_counts : (n k version : ℕ) (step : Step) (on : Expected → Captured) (bytes : List ℕ) → Leads k step
    → ((next : Expected) → Counts n (on next).ending (on next).rest)
    → Counts n (after_step version step on bytes).ending (after_step version step on bytes).rest
after_counts n k version (Opens next) on bytes leads later = later next
after_counts n k version (Gives e count next) on bytes leads later = later next
after_counts n k version (Closes stop) on bytes leads later = by_word n stop bytes leads

at_limit : (n offset more : ℕ) → n ≡ offset + more → offset ≤ limit → nat_lt offset limit ≡ false → n ≡ limit + more
at_limit n offset more count le is =
    let ge : limit ≤ offset = grind (arith, nat_tests, is) in omega (arith, count, le, ge)

records_count : (bytes : List ℕ) (n version : ℕ) (at : Expected) (offset : ℕ) → n ≡ offset + length bytes
    → offset % 4 ≡ 0
    → offset ≤ limit
    → Counts n (records version at offset bytes).ending (records version at offset bytes).rest
records_count [] n version at offset count whole le = elim (cases_Bool (nat_lt offset limit)) [
  | inl is ↦ rw is (sym count)
  | inr is ↦ rw is (at_limit n offset 0 count le is)
]
records_count (a ∷ []) n version at offset count whole le = elim (cases_Bool (nat_lt offset limit)) [
  | inl is ↦ rw is (sym count)
  | inr is ↦ rw is (at_limit n offset 1 count le is)
]
records_count (a ∷ b ∷ []) n version at offset count whole le = elim (cases_Bool (nat_lt offset limit)) [
  | inl is ↦ rw is (sym count)
  | inr is ↦ rw is (at_limit n offset 2 count le is)
]
records_count (a ∷ b ∷ c ∷ []) n version at offset count whole le = elim (cases_Bool (nat_lt offset limit)) [
  | inl is ↦ rw is (sym count)
  | inr is ↦ rw is (at_limit n offset 3 count le is)
]
records_count (a ∷ b ∷ c ∷ d ∷ bytes) n version at offset count whole le =
    elim (cases_Bool (nat_lt offset limit)) [
      | inl is ↦
          let lt : offset < limit = grind (arith, nat_tests, is) in
          rw is (after_counts n (words_to at) version _ (λ next. records version next (offset + 4) bytes) bytes
          (step_leads version at offset _)
          (λ next. records_count bytes n version next (offset + 4) (omega (arith, count)) (omega (arith, whole))
          (omega (arith, whole, lt))))
      | inr is ↦ rw is (at_limit n offset (length (a ∷ b ∷ c ∷ d ∷ bytes)) count le is)
    ]

by_head : (n : ℕ) (version : Result ℕ ℕ) (bytes : List ℕ) → n ≡ 8 + length bytes
    → Counts n (opened version bytes).ending (opened version bytes).rest
by_head n (Ok version) bytes count = records_count bytes n version expected.Tag 8 count (omega arith) (omega arith)
by_head n (Err offset) bytes count = tt

capture_count : (bytes : List ℕ) → Counts (length bytes) (capture bytes).ending (capture bytes).rest
capture_count bytes = elim (cases_Bool (nat_lt (length bytes) 8)) [
  | inl is ↦ rw is refl
  | inr is ↦
      let ge : 8 ≤ length bytes = grind (arith, nat_tests, is) in
      let e = length-drop 8 bytes in
      rw is (by_head (length bytes) (head_version (take 8 bytes)) (drop 8 bytes) (omega (arith, ge, e)))
]

known : (version : ℕ) → 1 ≤ version → nat_lt 0 version ≡ true
known version le = grind arith

from_offset : (n version offset : ℕ) (at : Expected)
    → Counts n (records version at offset []).ending (records version at offset []).rest → n ≡ min offset limit
from_offset n version offset at = elim (cases_Bool (nat_lt offset limit)) [
  | inl is ↦
      let lt : offset < limit = grind (arith, nat_tests, is) in
      rw is (λ (count : offset + 0 ≡ n). omega (arith, lt, count))
  | inr is ↦
      let ge : limit ≤ offset = grind (arith, nat_tests, is) in
      rw is (λ (count : n ≡ limit + 0). omega (arith, ge, count))
]

-- After the header, the bytes read are as many as the reader's offset, at most the limit.
pub taken_count : (p : Progress) (events : List Event) (taken : List ℕ) → 1 ≤ p.version
    → ((rest : List ℕ) → capture (taken ++ rest) ≡ then_events events (capture_from p rest))
    → length taken ≡ min p.offset limit
taken_count p events taken started says =
    let is : capture taken ≡ then_events events (capture_from p []) = ap capture (sym (append-nil taken)) ∙ says [] in
    let P : Captured → Type 0 = λ c. Counts (length taken) c.ending c.rest in
    let there : Counts (length taken) (capture_from p []).ending (capture_from p []).rest =
    subst P is (capture_count taken) in
    from_offset (length taken) p.version p.offset p.expected (rw (known p.version started) at there)

-- ---- how many bytes one call reads

abbrev IsCut : Stop → Type 0
IsCut (Truncated byte) = Unit {0}
IsCut other = ⊥

-- there is an event, or a stop that does not depend on the bytes after it
abbrev IsTold : Captured → Type 0
IsTold c = c.events ≡ [] → IsCut c.ending → ⊥

by_stop : (stop : Stop) → IsWordStop stop → IsCut stop → ⊥
by_stop End is cut = cut
by_stop (BadRecord byte word) is cut = cut
by_stop (NotCapture byte) is cut = is
by_stop (Truncated byte) is cut = is
by_stop (TooLong byte) is cut = is
by_stop (ReadFault byte) is cut = is

after_told : (k version : ℕ) (step : Step) (on : Expected → Captured) (bytes : List ℕ) → Leads k step
    → ((next : Expected) → words_to next < k → IsTold (on next)) → IsTold (after_step version step on bytes)
after_told k version (Opens next) on bytes leads later = later next leads
after_told k version (Gives e zero next) on bytes leads later = absurd (omega (arith, leads))
after_told k version (Gives e (suc n) next) on bytes leads later = λ none cut. absurd cc
after_told k version (Closes stop) on bytes leads later = λ none cut. by_stop stop leads cut

some_words : (at : Expected) → 1 ≤ words_to at
some_words expected.Tag = omega arith
some_words (expected.Address count) = omega arith
some_words (expected.Ram address left) = omega arith
some_words (expected.Gp0 left) = omega arith
some_words expected.Gp1 = omega arith
some_words (expected.Madr by) = omega arith
some_words (expected.Bcr by madr) = omega arith
some_words (expected.Chcr by madr bcr) = omega arith

records_told : (bytes : List ℕ) (version : ℕ) (at : Expected) (offset : ℕ) → 4 * words_to at ≤ length bytes
    → IsTold (records version at offset bytes)
records_told [] version at offset many = let some = some_words at in absurd (omega (arith, many, some))
records_told (a ∷ []) version at offset many = let some = some_words at in absurd (omega (arith, many, some))
records_told (a ∷ b ∷ []) version at offset many = let some = some_words at in absurd (omega (arith, many, some))
records_told (a ∷ b ∷ c ∷ []) version at offset many = let some = some_words at in absurd (omega (arith, many, some))
records_told (a ∷ b ∷ c ∷ d ∷ bytes) version at offset many = elim (cases_Bool (nat_lt offset limit)) [
  | inl is ↦ rw is (after_told (words_to at) version _ (λ next. records version next (offset + 4) bytes) bytes
      (step_leads version at offset _)
      (λ next less. records_told bytes version next (offset + 4) (omega (arith, many, less))))
  | inr is ↦ rw is (λ none cut. cut)
]

none_after : (xs ys : List Event) → xs ++ ys ≡ [] → ys ≡ []
none_after [] ys none = none
none_after (x ∷ xs) ys none = absurd cc

told_from : (p : Progress) (bytes : List ℕ) → 1 ≤ p.version → 16 ≤ length bytes → IsTold (capture_from p bytes)
told_from p bytes started many = rw (known p.version started) (λ none cut.
    records_told bytes p.version p.expected p.offset (let most = most_words p.expected in omega (arith, many, most))
    (none_after (replicate p.left p.repeated) _ none) cut)
  where
    most_words : (at : Expected) → words_to at ≤ 4
    most_words expected.Tag = omega arith
    most_words (expected.Address count) = omega arith
    most_words (expected.Ram address left) = omega arith
    most_words (expected.Gp0 left) = omega arith
    most_words expected.Gp1 = omega arith
    most_words (expected.Madr by) = omega arith
    most_words (expected.Bcr by madr) = omega arith
    most_words (expected.Chcr by madr bcr) = omega arith

-- After the header, a call reads at most 16 bytes.
pub few_at_once : (p : Progress) (taken : List ℕ) → 1 ≤ p.version → AreNeeded p taken → length taken ≤ 16
few_at_once p taken started needed = elim (cases_lt 16 (length taken)) [
  | inl more ↦
      let some : drop 16 taken ≡ [] → ⊥ = λ none.
      let e = length-drop 16 taken in let z = ap length none in omega (arith, e, z, more) in
      let short = needed (take 16 taken) (drop 16 taken) (sym (take-append-drop 16 taken)) some in
      let long : 16 ≤ length (take 16 taken) =
      let e = length-take-le 16 taken (omega (arith, more)) in omega (arith, e) in
      absurd (subst IsTold short.is (told_from p (take 16 taken) started long) refl tt)
  | inr le ↦ le
]

head_told : (version : Result ℕ ℕ) (bytes : List ℕ) → 16 ≤ length bytes → IsTold (opened version bytes)
head_told (Ok version) bytes many = records_told bytes version expected.Tag 8 (omega (arith, many))
head_told (Err offset) bytes many = λ none cut. cut

told_whole : (bytes : List ℕ) → 24 ≤ length bytes → IsTold (capture bytes)
told_whole bytes many =
    let long : nat_lt (length bytes) 8 ≡ false = grind (arith, nat_tests, many) in
    let e = length-drop 8 bytes in
    rw long (head_told (head_version (take 8 bytes)) (drop 8 bytes) (omega (arith, many, e)))

-- With the header it reads at most 24 bytes.
pub few_at_first : (p : Progress) (taken : List ℕ) → IsStart p → AreNeeded p taken → length taken ≤ 24
few_at_first p taken start needed = elim (cases_lt 24 (length taken)) [
  | inl more ↦
      let some : drop 24 taken ≡ [] → ⊥ = λ none.
      let e = length-drop 24 taken in let z = ap length none in omega (arith, e, z, more) in
      let short = needed (take 24 taken) (drop 24 taken) (sym (take-append-drop 24 taken)) some in
      let long : 24 ≤ length (take 24 taken) =
      let e = length-take-le 24 taken (omega (arith, more)) in omega (arith, e) in
      let told : IsTold (capture_from p (take 24 taken)) = rw start.version (told_whole (take 24 taken) long) in
      absurd (subst IsTold short.is told refl tt)
  | inr le ↦ le
]

-- ---- between two offsets

-- bytes up to offset `n`: if they are truncated, the stop names `n`; if they are too long, `n` is at most `most` plus
-- the bytes that are left
abbrev Reach : (n most : ℕ) → Stop → List ℕ → Type 0
Reach n most (Truncated byte) rest = byte ≡ n
Reach n most (TooLong byte) rest = n ≤ most + length rest
Reach n most other rest = Unit {0}

word_reaches : (n most : ℕ) (stop : Stop) (rest : List ℕ) → IsWordStop stop → Reach n most stop rest
word_reaches n most End rest is = tt
word_reaches n most (BadRecord byte word) rest is = tt
word_reaches n most (NotCapture byte) rest is = absurd is
word_reaches n most (Truncated byte) rest is = absurd is
word_reaches n most (TooLong byte) rest is = absurd is
word_reaches n most (ReadFault byte) rest is = absurd is

after_reaches : (n most k version : ℕ) (step : Step) (on : Expected → Captured) (bytes : List ℕ) → Leads k step
    → ((next : Expected) → Reach n most (on next).ending (on next).rest)
    → Reach n most (after_step version step on bytes).ending (after_step version step on bytes).rest
after_reaches n most k version (Opens next) on bytes leads later = later next
after_reaches n most k version (Gives e count next) on bytes leads later = later next
after_reaches n most k version (Closes stop) on bytes leads later = word_reaches n most stop bytes leads

records_reach : (bytes : List ℕ) (n most version : ℕ) (at : Expected) (offset : ℕ) → n ≡ offset + length bytes
    → offset ≤ most
    → limit + 3 ≤ most
    → Reach n most (records version at offset bytes).ending (records version at offset bytes).rest
records_reach [] n most version at offset count le far = elim (cases_Bool (nat_lt offset limit)) [
  | inl is ↦ rw is (sym count)
  | inr is ↦ rw is (omega (arith, count, le))
]
records_reach (a ∷ []) n most version at offset count le far = elim (cases_Bool (nat_lt offset limit)) [
  | inl is ↦ rw is (sym count)
  | inr is ↦ rw is (omega (arith, count, le))
]
records_reach (a ∷ b ∷ []) n most version at offset count le far = elim (cases_Bool (nat_lt offset limit)) [
  | inl is ↦ rw is (sym count)
  | inr is ↦ rw is (omega (arith, count, le))
]
records_reach (a ∷ b ∷ c ∷ []) n most version at offset count le far = elim (cases_Bool (nat_lt offset limit)) [
  | inl is ↦ rw is (sym count)
  | inr is ↦ rw is (omega (arith, count, le))
]
records_reach (a ∷ b ∷ c ∷ d ∷ bytes) n most version at offset count le far =
    elim (cases_Bool (nat_lt offset limit)) [
      | inl is ↦
          let lt : offset < limit = grind (arith, nat_tests, is) in
          rw is (after_reaches n most (words_to at) version _ (λ next. records version next (offset + 4) bytes) bytes
          (step_leads version at offset _)
          (λ next. records_reach bytes n most version next (offset + 4) (omega (arith, count)) (omega (arith, lt, far))
          far))
      | inr is ↦ rw is (omega (arith, count, le))
    ]

from_reaches : (p : Progress) (bytes : List ℕ) (most : ℕ) → 1 ≤ p.version → p.offset ≤ most → limit + 3 ≤ most
    → Reach (p.offset + length bytes) most (capture_from p bytes).ending (capture_from p bytes).rest
from_reaches p bytes most started le far = rw (known p.version started)
    (records_reach bytes (p.offset + length bytes) most p.version p.expected p.offset refl le far)

-- at the limit no more bytes are needed
none_at_limit : (p : Progress) (more : List ℕ) → 1 ≤ p.version → nat_lt p.offset limit ≡ false → AreNeeded p more
    → length more ≡ 0
none_at_limit p [] started is needed = refl
none_at_limit p (x ∷ more) started is needed =
    let short = needed [] (x ∷ more) refl (λ none. cc) in
    let P : Captured → Type 0 = λ c. IsCut c.ending in
    let cut : IsCut (capture_from p []).ending = subst P (sym short.is) tt in
    let no : ⊥ = rw (known p.version started, is) at cut in
    absurd no

-- Between two reader states less than 4,096 bytes apart, and in one more call, at most 4,112 bytes are read.
pub few_between : (p q : Progress) (events : List Event) (taken more : List ℕ) → 1 ≤ p.version → 1 ≤ q.version
    → ((rest : List ℕ) → capture_from p (taken ++ rest) ≡ then_events events (capture_from q rest))
    → q.offset < p.offset + 4096 → AreNeeded q more → length taken + length more ≤ 4112
few_between p q events taken more started known_there says near needed =
    let is : capture_from p taken ≡ then_events events (capture_from q []) =
    ap (capture_from p) (sym (append-nil taken)) ∙ says [] in
    elim (cases_Bool (nat_lt q.offset limit)) [
      | inl below ↦
          let most = p.offset + limit + 3 in
          let P : Captured → Type 0 = λ c. Reach (p.offset + length taken) most c.ending c.rest in
          let there : Reach (p.offset + length taken) most (capture_from q []).ending (capture_from q []).rest =
          subst P is (from_reaches p taken most started (omega arith) (omega arith)) in
          let at : q.offset + 0 ≡ p.offset + length taken = rw (known q.version known_there, below) at there in
          let few = few_at_once q more known_there needed in
          omega (arith, at, few, near)
      | inr past ↦
          let ge : limit ≤ q.offset = grind (arith, nat_tests, past) in
          let most = p.offset + 4098 in
          let P : Captured → Type 0 = λ c. Reach (p.offset + length taken) most c.ending c.rest in
          let there : Reach (p.offset + length taken) most (capture_from q []).ending (capture_from q []).rest =
          subst P is (from_reaches p taken most started (omega arith) (omega (arith, ge, near))) in
          let le : p.offset + length taken ≤ most + 0 = rw (known q.version known_there, past) at there in
          let none = none_at_limit q more known_there past needed in
          omega (arith, le, none)
    ]
