-- Thirteen words, read as registers and written again.
use Rattle.std.proofs.Common.{◌≡◌, ℕ, zero, suc, ◌+◌, ◌*◌, ◌^◌, ◌<◌, Bool, true, false, List, [], ◌∷◌, length, drop}
use Rattle.std.proofs.Common.{slice_index, ◌==◌, ◌&&◌, refl, sym, ap, ◌∙◌, arith}
use Rattle.std.proofs.lemmas.Bool.{ltb-true, lt-ltb, le-leb}
use Rattle.std.proofs.lemmas.Bool.Decides.{nat_tests}
use Rattle.std.proofs.lemmas.List.{drop_all}
use Rattle.gp1_status.specs.Registers.{Registers, KeepsWidths, bit, bit_of}
use Rattle.gp1_status.specs.Words.{AreAllowed, is_allowed, words_of, registers_in}

next : (xs : List ℕ) (i : ℕ) → i < length xs → drop i xs ≡ slice_index xs i ∷ drop (suc i) xs
next [] i h = absurd (omega arith)
next (x ∷ xs) zero h = refl
next (x ∷ xs) (suc i) h = next xs i (omega arith)

pub flags-again : (w : ℕ) → w < 4 → bit_of (bit w 0 == 1) + bit_of (bit w 1 == 1) * 2 ≡ w
flags-again w h = grind (arith, nat_tests)

pub thirteen : (xs : List ℕ) → length xs ≡ 13 →
    xs ≡ slice_index xs 0 ∷ slice_index xs 1 ∷ slice_index xs 2 ∷ slice_index xs 3 ∷ slice_index xs 4
    ∷ slice_index xs 5 ∷ slice_index xs 6 ∷ slice_index xs 7 ∷ slice_index xs 8 ∷ slice_index xs 9
    ∷ slice_index xs 10 ∷ slice_index xs 11 ∷ slice_index xs 12 ∷ []
thirteen xs long =
    let step : (i : ℕ) → i < 13 → drop i xs ≡ slice_index xs i ∷ drop (suc i) xs =
    λ i h. next xs i (omega (arith, long, h)) in
    let over : drop 13 xs ≡ [] = drop_all 13 xs (omega (arith, long)) in
    step 0 (omega arith) ∙ ap (λ t. slice_index xs 0 ∷ t)
    (step 1 (omega arith) ∙ ap (λ t. slice_index xs 1 ∷ t)
    (step 2 (omega arith) ∙ ap (λ t. slice_index xs 2 ∷ t)
    (step 3 (omega arith) ∙ ap (λ t. slice_index xs 3 ∷ t)
    (step 4 (omega arith) ∙ ap (λ t. slice_index xs 4 ∷ t)
    (step 5 (omega arith) ∙ ap (λ t. slice_index xs 5 ∷ t)
    (step 6 (omega arith) ∙ ap (λ t. slice_index xs 6 ∷ t)
    (step 7 (omega arith) ∙ ap (λ t. slice_index xs 7 ∷ t)
    (step 8 (omega arith) ∙ ap (λ t. slice_index xs 8 ∷ t)
    (step 9 (omega arith) ∙ ap (λ t. slice_index xs 9 ∷ t)
    (step 10 (omega arith) ∙ ap (λ t. slice_index xs 10 ∷ t)
    (step 11 (omega arith) ∙ ap (λ t. slice_index xs 11 ∷ t)
    (step 12 (omega arith) ∙ ap (λ t. slice_index xs 12 ∷ t) over))))))))))))

-- the words of the registers read from these words are the words again
pub words_again : (height : ℕ) (xs : List ℕ) → length xs ≡ 13 → AreAllowed height xs
    → words_of (registers_in height xs) ≡ xs
words_again height xs long allowed =
    let few : slice_index xs 6 < 4 = ltb-true _ _ (allowed.each 6 (omega arith)) in
    rw (flags-again (slice_index xs 6) few) (sym (thirteen xs long))

bit_of-again : (b : Bool) → (bit_of b == 1) ≡ b
bit_of-again true = refl
bit_of-again false = refl

flag_low : (a b : Bool) → (bit (bit_of a + bit_of b * 2) 0 == 1) ≡ a
flag_low true true = refl
flag_low true false = refl
flag_low false true = refl
flag_low false false = refl

flag_high : (a b : Bool) → (bit (bit_of a + bit_of b * 2) 1 == 1) ≡ b
flag_high true true = refl
flag_high true false = refl
flag_high false true = refl
flag_high false false = refl

flags-few : (a b : Bool) → bit_of a + bit_of b * 2 < 4
flags-few true true = omega arith
flags-few true false = omega arith
flags-few false true = omega arith
flags-few false false = omega arith

pub registers-again : (r : Registers) → registers_in r.height (words_of r) ≡ r
registers-again r = rw (flag_low r.irq r.display_off, flag_high r.irq r.display_off) refl

both : (a b : Bool) → a ≡ true → b ≡ true → (a && b) ≡ true
both true true e f = refl
both true false e f = absurd cc
both false b e f = absurd cc

at_place : (r : Registers) → KeepsWidths r → r.held < 2 ^ 32 → (i : ℕ) → i < 13
    → is_allowed r.height i (slice_index (words_of r) i) ≡ true
at_place r k latch zero h = both _ _ (lt-ltb _ _ k.e1) (le-leb _ _ k.page)
at_place r k latch (suc zero) h = lt-ltb _ _ k.window
at_place r k latch (suc (suc zero)) h = lt-ltb _ _ k.top_left
at_place r k latch (suc (suc (suc zero))) h = lt-ltb _ _ k.bottom_right
at_place r k latch (suc (suc (suc (suc zero)))) h = lt-ltb _ _ k.offset
at_place r k latch (suc (suc (suc (suc (suc zero))))) h = lt-ltb _ _ k.mask
at_place r k latch (suc (suc (suc (suc (suc (suc zero)))))) h = lt-ltb _ _ (flags-few r.irq r.display_off)
at_place r k latch (suc (suc (suc (suc (suc (suc (suc zero))))))) h = lt-ltb _ _ k.direction
at_place r k latch (suc (suc (suc (suc (suc (suc (suc (suc zero)))))))) h = lt-ltb _ _ k.start
at_place r k latch (suc (suc (suc (suc (suc (suc (suc (suc (suc zero))))))))) h = lt-ltb _ _ k.hrange
at_place r k latch (suc (suc (suc (suc (suc (suc (suc (suc (suc (suc zero)))))))))) h = lt-ltb _ _ k.vrange
at_place r k latch (suc (suc (suc (suc (suc (suc (suc (suc (suc (suc (suc zero))))))))))) h = lt-ltb _ _ k.mode
at_place r k latch (suc (suc (suc (suc (suc (suc (suc (suc (suc (suc (suc (suc zero)))))))))))) h = lt-ltb _ _ latch
at_place r k latch (suc (suc (suc (suc (suc (suc (suc (suc (suc (suc (suc (suc (suc i))))))))))))) h = absurd
    (omega arith)

pub words-allowed : (r : Registers) → KeepsWidths r → r.held < 2 ^ 32 → AreAllowed r.height (words_of r)
words-allowed r k latch = record { each = at_place r k latch }
