-- What bytes are found to be remains if more bytes follow them, unless they break off.
use Rattle.std.proofs.Common.{◌≡◌, ◌≤◌, ◌+◌, ◌*◌, ◌++◌, List, [], ◌∷◌, ℕ, false, length, nat_lt}
use Rattle.std.proofs.Common.{refl, arith, inl, inr, length-append}
use Rattle.std.proofs.lemmas.Bool.{cases_Bool}
use Rattle.std.proofs.lemmas.List.{take-append-le, drop-append-le}
use Rattle.snapshot_words.specs.Reading.{Found, Whole, Short, Bad, found_then, section_from, outline_from}
use Rattle.snapshot_words.specs.Reading.{word_of, begun, run_from, store_from, pending_from, registers_from}
use Rattle.snapshot_words.specs.Reading.{memory_from, memories_from, state_from, ram_words}
use Rattle.snapshot_words.specs.Sections.{allows, wants}
use Rattle.snapshot_words.specs.Values.{height_in, played_in, pending_in, load_in, store_in}
use Rattle.snapshot_words.specs.declared.outline.Outline.{Outline}
use Rattle.snapshot_words.specs.declared.section.Section.{Section}
use Rattle.snapshot_words.specs.declared.section.Section.TheVariants as section
use Rattle.gp1_status.specs.Words.{registers_in}

-- what is found if more bytes follow, given what was found
abbrev pub Keeps : {A : Type 0} → Found A → (more : List ℕ) → Found A → Type 0
Keeps (Whole value offset rest) more found = found ≡ Whole value offset (rest ++ more)
Keeps (Short offset) more found = Unit {0}
Keeps (Bad offset word) more found = found ≡ Bad offset word

-- ---- one part

whole_stays : (s : Section) (got : List ℕ) (offset : ℕ) (bytes : List ℕ) → wants s got ≡ false
    → section_from s got offset bytes ≡ Whole got offset bytes
whole_stays s got offset [] full = rw full refl
whole_stays s got offset (a ∷ []) full = rw full refl
whole_stays s got offset (a ∷ b ∷ []) full = rw full refl
whole_stays s got offset (a ∷ b ∷ c ∷ []) full = rw full refl
whole_stays s got offset (a ∷ b ∷ c ∷ d ∷ rest) full = rw full refl

-- a part that is whole, with more bytes
keeps_whole : (s : Section) (got : List ℕ) (offset : ℕ) (bytes more : List ℕ) → wants s got ≡ false
    → Keeps (section_from s got offset bytes) more (section_from s got offset (bytes ++ more))
keeps_whole s got offset bytes more full =
    rw (whole_stays s got offset bytes full) (whole_stays s got offset (bytes ++ more) full)

pub section_keeps : (s : Section) (got : List ℕ) (offset : ℕ) (bytes more : List ℕ)
    → Keeps (section_from s got offset bytes) more (section_from s got offset (bytes ++ more))
section_keeps s got offset [] more =
    elim (cases_Bool (wants s got)) [ inl due ↦ rw due tt | inr full ↦ keeps_whole s got offset [] more full ]
section_keeps s got offset (a ∷ []) more =
    elim (cases_Bool (wants s got)) [ inl due ↦ rw due tt | inr full ↦ keeps_whole s got offset (a ∷ []) more full ]
section_keeps s got offset (a ∷ b ∷ []) more =
    elim (cases_Bool (wants s got)) [ inl due ↦ rw due tt | inr full ↦ keeps_whole s got offset (a ∷ b ∷ []) more full ]
section_keeps s got offset (a ∷ b ∷ c ∷ []) more =
    elim (cases_Bool (wants s got)) [
      | inl due ↦ rw due tt
      | inr full ↦ keeps_whole s got offset (a ∷ b ∷ c ∷ []) more full
    ]
section_keeps s got offset (a ∷ b ∷ c ∷ d ∷ rest) more =
    let word = word_of a b c d in
    elim (cases_Bool (wants s got)) [
      | inl due ↦
          elim (cases_Bool (allows s got word)) [
            | inl may ↦ rw (due, may) (section_keeps s (got ++ word ∷ []) (offset + 4) rest more)
            | inr not ↦ rw (due, not) refl
          ]
      | inr full ↦ keeps_whole s got offset (a ∷ b ∷ c ∷ d ∷ rest) more full
    ]

-- ---- one value after another

pub then_keeps : {A B : Type 0} (found wider : Found A) (more : List ℕ) (next : A → ℕ → List ℕ → Found B)
    → Keeps found more wider
    → ((value : A) (offset : ℕ) (rest : List ℕ)
    → Keeps (next value offset rest) more (next value offset (rest ++ more)))
    → Keeps (found_then found next) more (found_then wider next)
then_keeps (Whole value offset rest) wider more next is nexts = rw is (nexts value offset rest)
then_keeps (Short offset) wider more next is nexts = tt
then_keeps (Bad offset word) wider more next is nexts = rw is refl

run_keeps : (o : Outline) (offset : ℕ) (bytes more : List ℕ)
    → Keeps (run_from o offset bytes) more (run_from o offset (bytes ++ more))
run_keeps o offset bytes more =
    then_keeps _ _ more _ (section_keeps section.Run [] offset bytes more) (λ words offset rest. refl)

store_keeps : (o : Outline) (offset : ℕ) (bytes more : List ℕ)
    → Keeps (store_from o offset bytes) more (store_from o offset (bytes ++ more))
store_keeps o offset bytes more =
    then_keeps _ _ more _ (section_keeps (section.Store o.regs.height) [] offset bytes more)
    (λ words offset rest. run_keeps (record o { store = store_in words }) offset rest more)

pending_keeps : (o : Outline) (offset : ℕ) (bytes more : List ℕ)
    → Keeps (pending_from o offset bytes) more (pending_from o offset (bytes ++ more))
pending_keeps o offset bytes more =
    then_keeps _ _ more _ (section_keeps (section.Pending o.regs.height) [] offset bytes more)
    (λ words offset rest.
    store_keeps (record o { pending = pending_in words; load = load_in words }) offset rest more)

registers_keeps : (height played offset : ℕ) (bytes more : List ℕ)
    → Keeps (registers_from height played offset bytes) more (registers_from height played offset (bytes ++ more))
registers_keeps height played offset bytes more =
    then_keeps _ _ more _ (section_keeps (section.Registers height) [] offset bytes more)
    (λ words offset rest. pending_keeps (begun played (registers_in height words)) offset rest more)

pub outline_keeps : (offset : ℕ) (bytes more : List ℕ)
    → Keeps (outline_from offset bytes) more (outline_from offset (bytes ++ more))
unfolding outline_from
outline_keeps offset bytes more =
    then_keeps _ _ more _ (section_keeps section.Front [] offset bytes more)
    (λ words offset rest. registers_keeps (height_in words) (played_in words) offset rest more)

-- `n` words
pub memory_keeps : (count offset : ℕ) (bytes more : List ℕ)
    → Keeps (memory_from count offset bytes) more (memory_from count offset (bytes ++ more))
memory_keeps count offset bytes more =
    elim (cases_Bool (nat_lt (length bytes) (4 * count))) [
      | inl short ↦ rw short tt
      | inr whole ↦
          let le : 4 * count ≤ length bytes = grind (arith, whole) in
          let all = length-append bytes more in
          let enough : nat_lt (length (bytes ++ more)) (4 * count) ≡ false = grind (arith, le, all) in
          rw (whole, enough, take-append-le (4 * count) bytes more le, drop-append-le (4 * count) bytes more le) refl
    ]

memories_keeps : (o : Outline) (offset : ℕ) (bytes more : List ℕ)
    → Keeps (memories_from o offset bytes) more (memories_from o offset (bytes ++ more))
memories_keeps o offset bytes more =
    then_keeps _ _ more _ (memory_keeps (512 * o.regs.height) offset bytes more)
    (λ cells offset rest. then_keeps _ _ more _ (memory_keeps ram_words offset rest more) (λ ram offset rest. refl))

pub state_keeps : (offset : ℕ) (bytes more : List ℕ)
    → Keeps (state_from offset bytes) more (state_from offset (bytes ++ more))
unfolding state_from
state_keeps offset bytes more =
    then_keeps _ _ more memories_from (outline_keeps offset bytes more)
    (λ o offset rest. memories_keeps o offset rest more)
