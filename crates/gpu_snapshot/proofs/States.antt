-- Bytes of a state that break off, and those that are whole.
use Rattle.std.proofs.Common.{◌≡◌, ◌≤◌, ◌<◌, ◌+◌, ◌-◌, ◌*◌, ◌++◌, List, [], ◌∷◌, ℕ, true, false, length, take, drop}
use Rattle.std.proofs.Common.{nat_lt, refl, ap, sym, ◌∙◌, arith, inl, inr}
use Rattle.std.proofs.Common.{length-drop}
use Rattle.std.proofs.lemmas.Bool.{cases_Bool}
use Rattle.snapshot_words.specs.Reading.{Found, Whole, Short, Bad, Snapshot, outline_from, words_in}
use Rattle.snapshot_words.specs.Reading.{memory_from, memories_from, state_from, ram_words}
use Rattle.snapshot_words.specs.Taking.{IsShort, AreNeeded}
use Rattle.snapshot_words.specs.declared.outline.Outline.{Outline}
use Rattle.gpu_snapshot.specs.Restored.{first_offset}
use Rattle.gpu_snapshot.proofs.Keeping.{Keeps, state_keeps}

-- ---- each byte is needed

short_before : {A : Type 0} (found wider : Found A) (more : List ℕ) (offset : ℕ) → Keeps found more wider
    → wider ≡ Short offset → IsShort found
short_before (Whole value at rest) wider more offset keeps is =
    let e : Whole value at (rest ++ more) ≡ Short offset = sym keeps ∙ is in absurd cc
short_before (Short at) wider more offset keeps is = tt
short_before (Bad at word) wider more offset keeps is =
    let e : Bad at word ≡ Short offset = sym keeps ∙ is in absurd cc

none_after : (xs ys : List ℕ) → xs ++ ys ≡ [] → ys ≡ []
none_after [] ys is = is
none_after (x ∷ xs) ys is = absurd cc

rest_of : {A : Type 0} → Found A → List ℕ
rest_of (Whole value offset rest) = rest
rest_of (Short offset) = []
rest_of (Bad offset word) = []

whole_before : {A : Type 0} (found wider : Found A) (more : List ℕ) (value : A) (offset : ℕ) → Keeps found more wider
    → wider ≡ Whole value offset [] → (more ≡ [] → ⊥) → IsShort found
unfolding rest_of
whole_before (Whole other at rest) wider more value offset keeps is some =
    absurd (some (none_after rest more (ap rest_of (sym keeps ∙ is))))
whole_before (Short at) wider more value offset keeps is some = tt
whole_before (Bad at word) wider more value offset keeps is some =
    let e : Bad at word ≡ Whole value offset [] = sym keeps ∙ is in absurd cc

pub short_needed : (taken : List ℕ) (offset : ℕ) → state_from first_offset taken ≡ Short offset
    → AreNeeded (state_from first_offset) taken
short_needed taken offset is part more splits some =
    short_before (state_from first_offset part) (state_from first_offset (part ++ more)) more offset
    (state_keeps first_offset part more) (ap (state_from first_offset) (sym splits) ∙ is)

pub whole_needed : (taken : List ℕ) (s : Snapshot) (offset : ℕ) → state_from first_offset taken ≡ Whole s offset []
    → AreNeeded (state_from first_offset) taken
whole_needed taken s offset is part more splits some =
    whole_before (state_from first_offset part) (state_from first_offset (part ++ more)) more s offset
    (state_keeps first_offset part more) (ap (state_from first_offset) (sym splits) ∙ is) some

-- ---- the memories break off

short_memory : (count offset : ℕ) (bytes : List ℕ) → length bytes < 4 * count
    → memory_from count offset bytes ≡ Short (offset + length bytes)
short_memory count offset bytes few =
    let e : nat_lt (length bytes) (4 * count) ≡ true = grind (arith, few) in rw e refl

whole_memory : (count offset : ℕ) (bytes : List ℕ) → 4 * count ≤ length bytes
    → memory_from count offset bytes
    ≡ Whole (words_in (take (4 * count) bytes)) (offset + 4 * count) (drop (4 * count) bytes)
whole_memory count offset bytes le =
    let e : nat_lt (length bytes) (4 * count) ≡ false = grind (arith, le) in rw e refl

ram_is : ram_words ≡ 524288
unfolding ram_words
ram_is = refl

same_offset : (offset n m k : ℕ) → n + m ≡ k → offset + n + m ≡ offset + k
same_offset offset n m k is = omega (arith, is)

pub memories_lack : (o : Outline) (offset : ℕ) (bytes : List ℕ) → length bytes < 4 * (512 * o.regs.height + 524288)
    → memories_from o offset bytes ≡ Short (offset + length bytes)
memories_lack o offset bytes few =
    elim (cases_Bool (nat_lt (length bytes) (4 * (512 * o.regs.height)))) [
      | inl short ↦
          let lt : length bytes < 4 * (512 * o.regs.height) = grind (arith, short) in
          rw (short_memory (512 * o.regs.height) offset bytes lt) refl
      | inr whole ↦
          let le : 4 * (512 * o.regs.height) ≤ length bytes = grind (arith, whole) in
          let cells = 4 * (512 * o.regs.height) in
          let after : length (drop cells bytes) ≡ length bytes - cells = length-drop cells bytes in
          let lacks : length (drop cells bytes) < 4 * ram_words = rw ram_is (omega (arith, few, after, le)) in
          rw (
            whole_memory (512 * o.regs.height) offset bytes le,
            short_memory ram_words (offset + cells)
                (drop cells bytes) lacks,
          )
          (ap Short (same_offset offset cells (length (drop cells bytes)) (length bytes) (omega (arith, after, le))))
    ]

-- after a complete outline
pub state_lacks : (front bytes : List ℕ) (o : Outline) (offset : ℕ) → outline_from first_offset (front ++ bytes)
    ≡ Whole o offset bytes
    → length bytes < 4 * (512 * o.regs.height + 524288) → state_from first_offset (front ++ bytes)
    ≡ Short (offset + length bytes)
unfolding state_from
state_lacks front bytes o offset is few = rw is (memories_lack o offset bytes few)
