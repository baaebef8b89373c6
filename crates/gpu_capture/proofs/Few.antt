-- No byte of a capture is read at or after the limit.
use Rattle.std.proofs.Common.{◌≡◌, ◌≤◌, ◌<◌, ◌+◌, ◌-◌, ◌%◌, ℕ, List, [], ◌∷◌, Bool, true, false, cond, nat_lt}
use Rattle.std.proofs.Common.{length, take, drop, Result, Ok, Err, sym, subst, ap, inl, inr, arith}
use Rattle.std.proofs.lemmas.Bool.{cases_Bool, cases_lt}
use Rattle.std.proofs.lemmas.Bool.Decides.{nat_tests}
use Rattle.std.proofs.lemmas.List.{take-append-drop, length-drop, length-take-le}
use Rattle.gpu_capture.specs.Capture.{Captured, after_step, capture, limit, opened, records, head_version}
use Rattle.gpu_capture.specs.Limit.{TakesFew}
use Rattle.gpu_capture.specs.Reader.{AreNeeded, IsStart, capture_from}
use Rattle.gpu_capture.specs.Record.{count_of, word_step}
use Rattle.gpu_capture.specs.declared.event.Event.TheVariants as event
use Rattle.gpu_capture.specs.declared.event.Stop.{Stop}
use Rattle.gpu_capture.specs.declared.event.Stop.TheVariants.{End, BadRecord, Truncated}
use Rattle.gpu_capture.specs.declared.progress.Progress.{Progress}
use Rattle.gpu_capture.specs.declared.record.Expected.{Expected}
use Rattle.gpu_capture.specs.declared.record.Expected.TheVariants as expected
use Rattle.gpu_capture.specs.declared.record.Start.TheVariants as start
use Rattle.gpu_capture.specs.declared.record.Step.{Step}
use Rattle.gpu_capture.specs.declared.record.Step.TheVariants.{Opens, Gives, Closes}

-- a stop that does not depend on the bytes after it
abbrev IsFinal : Stop → Type 0
IsFinal (Truncated byte) = ⊥
IsFinal other = Unit {0}

abbrev ClosesFinally : Step → Type 0
ClosesFinally (Closes stop) = IsFinal stop
ClosesFinally other = Unit {0}

-- ---- one word

by_tests : (offset tag count : ℕ) (a b c d e f g h i j : Bool)
    → ClosesFinally (cond a (Closes End) (cond b (Opens (expected.Address count)) (cond c (Opens (expected.Gp0 count))
    (cond d (Opens expected.Gp1) (cond e (Gives event.Read count expected.Tag) (cond f (Gives event.Stat 1 expected.Tag)
    (cond g (Opens (expected.Madr (start.Dma count))) (cond h (Opens (expected.Madr start.Begin))
    (cond i (Gives event.Turn count expected.Tag) (cond j (Gives event.Skip count expected.Tag)
    (Closes (BadRecord offset tag))))))))))))
by_tests offset tag count true b c d e f g h i j = tt
by_tests offset tag count false true c d e f g h i j = tt
by_tests offset tag count false false true d e f g h i j = tt
by_tests offset tag count false false false true e f g h i j = tt
by_tests offset tag count false false false false true f g h i j = tt
by_tests offset tag count false false false false false true g h i j = tt
by_tests offset tag count false false false false false false true h i j = tt
by_tests offset tag count false false false false false false false true i j = tt
by_tests offset tag count false false false false false false false false true j = tt
by_tests offset tag count false false false false false false false false false true = tt
by_tests offset tag count false false false false false false false false false false = tt

by_address : (b : Bool) (next : Expected) (byte word : ℕ)
    → ClosesFinally (cond b (Opens next) (Closes (BadRecord byte word)))
by_address true next byte word = tt
by_address false next byte word = tt

step_closes : (version : ℕ) (at : Expected) (offset word : ℕ) → ClosesFinally (word_step version at offset word)
step_closes version expected.Tag offset word = by_tests offset word (count_of word) _ _ _ _ _ _ _ _ _ _
step_closes version (expected.Address count) offset word = by_address _ (expected.Ram word count) offset word
step_closes version (expected.Ram address left) offset word = tt
step_closes version (expected.Gp0 left) offset word = tt
step_closes version expected.Gp1 offset word = tt
step_closes version (expected.Madr by) offset word = tt
step_closes version (expected.Bcr by madr) offset word = tt
step_closes version (expected.Chcr by madr bcr) offset word = tt

after_step_law : (version : ℕ) (step : Step) (on : Expected → Captured) (bytes : List ℕ) → ClosesFinally step
    → ((next : Expected) → IsFinal (on next).ending) → IsFinal (after_step version step on bytes).ending
after_step_law version (Opens next) on bytes closes later = later next
after_step_law version (Gives e count next) on bytes closes later = later next
after_step_law version (Closes stop) on bytes closes later = closes

-- ---- all words

short_word : (offset n : ℕ) → offset % 4 ≡ 0 → n < 4 → limit ≤ offset + n → nat_lt offset limit ≡ true → ⊥
short_word offset n whole few le is =
    let lt : offset < limit = grind (arith, nat_tests, is) in omega (arith, whole, few, le, lt)

-- bytes that reach the limit end with such a stop
records_final : (bytes : List ℕ) (version : ℕ) (at : Expected) (offset : ℕ) → offset % 4 ≡ 0
    → limit ≤ offset + length bytes
    → IsFinal (records version at offset bytes).ending
records_final [] version at offset whole le = elim (cases_Bool (nat_lt offset limit)) [
  | inl is ↦ absurd (short_word offset 0 whole (omega arith) le is)
  | inr is ↦ rw is tt
]
records_final (a ∷ []) version at offset whole le = elim (cases_Bool (nat_lt offset limit)) [
  | inl is ↦ absurd (short_word offset 1 whole (omega arith) le is)
  | inr is ↦ rw is tt
]
records_final (a ∷ b ∷ []) version at offset whole le = elim (cases_Bool (nat_lt offset limit)) [
  | inl is ↦ absurd (short_word offset 2 whole (omega arith) le is)
  | inr is ↦ rw is tt
]
records_final (a ∷ b ∷ c ∷ []) version at offset whole le = elim (cases_Bool (nat_lt offset limit)) [
  | inl is ↦ absurd (short_word offset 3 whole (omega arith) le is)
  | inr is ↦ rw is tt
]
records_final (a ∷ b ∷ c ∷ d ∷ bytes) version at offset whole le = elim (cases_Bool (nat_lt offset limit)) [
  | inl is ↦ rw is (after_step_law version _ (λ next. records version next (offset + 4) bytes) bytes
      (step_closes version at offset _)
      (λ next. records_final bytes version next (offset + 4) (omega (arith, whole)) (omega (arith, le))))
  | inr is ↦ rw is tt
]

-- ---- the header

by_head : (version : Result ℕ ℕ) (bytes : List ℕ) → limit ≤ 8 + length bytes → IsFinal (opened version bytes).ending
by_head (Ok version) bytes le = records_final bytes version expected.Tag 8 (omega arith) le
by_head (Err offset) bytes le = tt

capture_final : (bytes : List ℕ) → limit ≤ length bytes → IsFinal (capture bytes).ending
capture_final bytes le =
    let long : nat_lt (length bytes) 8 ≡ false = grind (arith, nat_tests, le) in
    rw long (by_head (head_version (take 8 bytes)) (drop 8 bytes)
    (let e = length-drop 8 bytes in omega (arith, e, le)))

-- ---- the bytes read

-- if every prefix of `n` bytes ends a capture, at most `n` bytes are needed
no_more : (p : Progress) (taken : List ℕ) (n : ℕ) → AreNeeded p taken
    → ((part : List ℕ) → length part ≡ n → IsFinal (capture_from p part).ending) → length taken ≤ n
no_more p taken n needed final =
    elim (cases_lt n (length taken)) [
      | inl more ↦
          let some : drop n taken ≡ [] → ⊥ = λ none.
          let e = length-drop n taken in let z = ap length none in omega (arith, e, z, more) in
          let short = needed (take n taken) (drop n taken) (sym (take-append-drop n taken)) some in
          let P : Captured → Type 0 = λ c. IsFinal c.ending in
          absurd (subst P short.is (final (take n taken) (length-take-le n taken (omega (arith, more)))))
      | inr le ↦ le
    ]

few_all : (p : Progress) (taken : List ℕ) → IsStart p → AreNeeded p taken → length taken ≤ limit
few_all p taken start needed =
    no_more p taken limit needed
    (λ part long. rw start.version (capture_final part (omega (arith, long))))

few_rest : (p : Progress) (taken : List ℕ) → 1 ≤ p.version → p.offset % 4 ≡ 0 → p.offset ≤ limit → AreNeeded p taken
    → p.offset + length taken ≤ limit
few_rest p taken started whole le needed =
    let few = no_more p taken (limit - p.offset) needed
    (λ part long.
    let on : nat_lt 0 p.version ≡ true = grind (arith, nat_tests, started) in
    rw on (records_final part p.version p.expected p.offset whole (omega (arith, long, le)))) in
    omega (arith, few, le)

pub takes_few : TakesFew
takes_few = record { all = few_all; rest = few_rest }
