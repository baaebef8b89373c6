-- Skip events occur only in captures of version 2 or later.
use Rattle.std.proofs.Common.{◌≡◌, ◌≤◌, ◌+◌, ◌&&◌, ◌==◌, ◌++◌, ℕ, zero, suc, List, [], ◌∷◌, Bool, true, false, cond}
use Rattle.std.proofs.Common.{nat_lt, nat_le, length, take, drop, replicate, Result, Ok, Err, refl, sym, subst, arith}
use Rattle.std.proofs.Common.{inl, inr}
use Rattle.std.proofs.lemmas.Bool.{cases_Bool}
use Rattle.std.proofs.lemmas.Bool.Decides.{nat_tests}
use Rattle.gpu_capture.specs.Capture.{Captured, after_step, capture, limit, opened, records, head_version}
use Rattle.gpu_capture.specs.Record.{kind_of, count_of, is_repeats, started_by, word_step, tag_step}
use Rattle.gpu_capture.specs.declared.event.Event.{Event}
use Rattle.gpu_capture.specs.declared.event.Event.TheVariants as event
use Rattle.gpu_capture.specs.declared.event.Stop.{Stop}
use Rattle.gpu_capture.specs.declared.event.Stop.TheVariants.{End, BadRecord}
use Rattle.gpu_capture.specs.declared.record.Expected.{Expected}
use Rattle.gpu_capture.specs.declared.record.Expected.TheVariants as expected
use Rattle.gpu_capture.specs.declared.record.Start.{Start}
use Rattle.gpu_capture.specs.declared.record.Start.TheVariants as start
use Rattle.gpu_capture.specs.declared.record.Step.{Step}
use Rattle.gpu_capture.specs.declared.record.Step.TheVariants.{Opens, Gives, Closes}
use Rattle.gpu_capture.proofs.Versions.{records_version}

abbrev pub IsKnown : ℕ → Event → Type 0
IsKnown version event.Skip = 2 ≤ version
IsKnown version other = Unit {0}

abbrev pub AreKnown : ℕ → List Event → Type 0
AreKnown version [] = Unit {0}
AreKnown version (e ∷ events) = IsKnown version e × AreKnown version events

abbrev GivesKnown : ℕ → Step → Type 0
GivesKnown version (Gives e count next) = IsKnown version e
GivesKnown version other = Unit {0}

-- ---- one word

skip_known : (version kind count : ℕ) → (kind == 9 && (nat_le 2 version && is_repeats count)) ≡ true → 2 ≤ version
skip_known version kind count is = grind (arith, nat_tests, is)

-- by the tests of a tag, in order
by_tests : (version offset tag count : ℕ) (a b c d e f g h i j : Bool) → (j ≡ true → 2 ≤ version)
    → GivesKnown version (cond a (Closes End)
    (cond b (Opens (expected.Address count)) (cond c (Opens (expected.Gp0 count))
    (cond d (Opens expected.Gp1) (cond e (Gives event.Read count expected.Tag) (cond f (Gives event.Stat 1 expected.Tag)
    (cond g (Opens (expected.Madr (start.Dma count))) (cond h (Opens (expected.Madr start.Begin))
    (cond i (Gives event.Turn count expected.Tag) (cond j (Gives event.Skip count expected.Tag)
    (Closes (BadRecord offset tag))))))))))))
by_tests version offset tag count true b c d e f g h i j skip = tt
by_tests version offset tag count false true c d e f g h i j skip = tt
by_tests version offset tag count false false true d e f g h i j skip = tt
by_tests version offset tag count false false false true e f g h i j skip = tt
by_tests version offset tag count false false false false true f g h i j skip = tt
by_tests version offset tag count false false false false false true g h i j skip = tt
by_tests version offset tag count false false false false false false true h i j skip = tt
by_tests version offset tag count false false false false false false false true i j skip = tt
by_tests version offset tag count false false false false false false false false true j skip = tt
by_tests version offset tag count false false false false false false false false false true skip = skip refl
by_tests version offset tag count false false false false false false false false false false skip = tt

tag_known : (version offset tag : ℕ) → GivesKnown version (tag_step version offset tag)
tag_known version offset tag =
    by_tests version offset tag (count_of tag) _ _ _ _ _ _ _ _ _ _ (skip_known version (kind_of tag) (count_of tag))

-- an address gives no event
opened_known : (version : ℕ) (b : Bool) (next : Expected) (stop : Stop)
    → GivesKnown version (cond b (Opens next) (Closes stop))
opened_known version true next stop = tt
opened_known version false next stop = tt

by_start : (version : ℕ) (by : Start) (madr bcr chcr : ℕ) → IsKnown version (started_by by madr bcr chcr)
by_start version (start.Dma channel) madr bcr chcr = tt
by_start version start.Begin madr bcr chcr = tt

step_known : (version : ℕ) (at : Expected) (offset word : ℕ) → GivesKnown version (word_step version at offset word)
step_known version expected.Tag offset word = tag_known version offset word
step_known version (expected.Address count) offset word =
    opened_known version _ (expected.Ram word count) (BadRecord offset word)
step_known version (expected.Ram address left) offset word = tt
step_known version (expected.Gp0 left) offset word = tt
step_known version expected.Gp1 offset word = tt
step_known version (expected.Madr by) offset word = tt
step_known version (expected.Bcr by madr) offset word = tt
step_known version (expected.Chcr by madr bcr) offset word = by_start version by madr bcr word

-- ---- all bytes

known_append : (version : ℕ) (xs ys : List Event) → AreKnown version xs → AreKnown version ys
    → AreKnown version (xs ++ ys)
known_append version [] ys first last = last
known_append version (x ∷ xs) ys first last = (first.0, known_append version xs ys first.1 last)

known_repeated : (version : ℕ) (e : Event) (n : ℕ) → IsKnown version e → AreKnown version (replicate n e)
known_repeated version e zero known = tt
known_repeated version e (suc n) known = (known, known_repeated version e n known)

after_known : (version : ℕ) (step : Step) (on : Expected → Captured) (bytes : List ℕ) → GivesKnown version step
    → ((next : Expected) → AreKnown version (on next).events)
    → AreKnown version (after_step version step on bytes).events
after_known version (Opens next) on bytes known later = later next
after_known version (Gives e count next) on bytes known later =
    known_append version (replicate count e) (on next).events (known_repeated version e count known) (later next)
after_known version (Closes stop) on bytes known later = tt

records_known : (bytes : List ℕ) (version : ℕ) (at : Expected) (offset : ℕ)
    → AreKnown version (records version at offset bytes).events
records_known [] version at offset = elim (cases_Bool (nat_lt offset limit)) [ inl is ↦ rw is tt | inr is ↦ rw is tt ]
records_known (a ∷ []) version at offset = elim
    (cases_Bool (nat_lt offset limit)) [ inl is ↦ rw is tt | inr is ↦ rw is tt ]
records_known (a ∷ b ∷ []) version at offset = elim
    (cases_Bool (nat_lt offset limit)) [ inl is ↦ rw is tt | inr is ↦ rw is tt ]
records_known (a ∷ b ∷ c ∷ []) version at offset = elim
    (cases_Bool (nat_lt offset limit)) [ inl is ↦ rw is tt | inr is ↦ rw is tt ]
records_known (a ∷ b ∷ c ∷ d ∷ bytes) version at offset =
    elim (cases_Bool (nat_lt offset limit)) [
      | inl is ↦ rw is (after_known version _ (λ next. records version next (offset + 4) bytes) bytes
          (step_known version at offset _) (λ next. records_known bytes version next (offset + 4)))
      | inr is ↦ rw is tt
    ]

by_head : (version : Result ℕ ℕ) (bytes : List ℕ)
    → AreKnown (opened version bytes).version (opened version bytes).events
by_head (Ok version) bytes =
    let P : ℕ → Type 0 = λ v. AreKnown v (records version expected.Tag 8 bytes).events in
    subst P (sym (records_version version expected.Tag 8 bytes)) (records_known bytes version expected.Tag 8)
by_head (Err offset) bytes = tt

-- the same for all events of any bytes
pub capture_known : (bytes : List ℕ) → AreKnown (capture bytes).version (capture bytes).events
capture_known bytes =
    elim (cases_Bool (nat_lt (length bytes) 8)) [
      | inl short ↦ rw short tt
      | inr long ↦ rw long (by_head (head_version (take 8 bytes)) (drop 8 bytes))
    ]
