-- The values of the words of whole parts.
use Rattle.std.proofs.Common.{◌≡◌, ◌<◌, ◌+◌, ◌*◌, ◌%◌, ◌/◌, ◌^◌, ◌⊎◌, inl, inr, List, [], ◌∷◌, ℕ, Bool}
use Rattle.std.proofs.Common.{true, false}
use Rattle.std.proofs.Common.{not, length, take, slice_index, nat_lt, nat_le, ◌==◌, ◌&&◌, ◌||◌}
use Rattle.std.proofs.Common.{refl}
use Rattle.std.proofs.Common.{subst, arith}
use Rattle.std.proofs.lemmas.Bool.{ltb-true, ltb-false, leb-true, eqb-true, eq-eqb, and_parts, cases_lt}
use Rattle.std.proofs.lemmas.Bool.{cases_Bool}
use Rattle.std.proofs.lemmas.List.{length-take-le, get_or-take}
use Rattle.gp1_status.specs.Words.{is_allowed, AreAllowed as RegisterBits}
use Rattle.gp1_status.proofs.WordsBack.{words_again}
use Rattle.gpu_core.specs.Kept.{IsJob}
use Rattle.list_dma.specs.Plans.{IsWordAddress}
use Rattle.snapshot_words.specs.Sections.{need, is_address, is_within, IsWhole}
use Rattle.snapshot_words.specs.Shapes.{IsFront, IsRegisters, IsStore}
use Rattle.snapshot_words.specs.declared.section.Section.{Section}
use Rattle.snapshot_words.specs.declared.section.Section.TheVariants as section

-- ---- lists of a known length

one_more : (P : List ℕ → Type 0) (n : ℕ) → ((a : ℕ) (rest : List ℕ) → length rest ≡ n → P (a ∷ rest))
    → (words : List ℕ) → length words ≡ n + 1 → P words
one_more P n f [] long = absurd (omega arith)
one_more P n f (a ∷ rest) long = f a rest (omega (arith, long))

no_more : (P : List ℕ → Type 0) → P [] → (words : List ℕ) → length words ≡ 0 → P words
no_more P p [] long = p
no_more P p (a ∷ rest) long = absurd (omega arith)

pub shape1 : (P : List ℕ → Type 0) → ((a : ℕ) → P (a ∷ [])) → (words : List ℕ) → length words ≡ 1 → P words
shape1 P f = one_more P 0 (λ a. no_more (λ r. P (a ∷ r)) (f a))

pub shape2 : (P : List ℕ → Type 0) → ((a b : ℕ) → P (a ∷ b ∷ [])) → (words : List ℕ) → length words ≡ 2 → P words
shape2 P f = one_more P 1 (λ a. shape1 (λ r. P (a ∷ r)) (f a))

pub shape3 : (P : List ℕ → Type 0) → ((a b c : ℕ) → P (a ∷ b ∷ c ∷ [])) → (words : List ℕ) → length words ≡ 3 → P words
shape3 P f = one_more P 2 (λ a. shape2 (λ r. P (a ∷ r)) (f a))

pub shape5 : (P : List ℕ → Type 0) → ((a b c d e : ℕ) → P (a ∷ b ∷ c ∷ d ∷ e ∷ [])) → (words : List ℕ)
    → length words ≡ 5
    → P words
shape5 P f = one_more P 4 (λ a. one_more (λ r. P (a ∷ r)) 3 (λ b. shape3 (λ r. P (a ∷ b ∷ r)) (f a b)))

pub shape6 : (P : List ℕ → Type 0) → ((a b c d e f : ℕ) → P (a ∷ b ∷ c ∷ d ∷ e ∷ f ∷ [])) → (words : List ℕ)
    → length words ≡ 6 → P words
shape6 P f = one_more P 5 (λ a. shape5 (λ r. P (a ∷ r)) (f a))

-- ---- a whole part has as many words as it needs

module _ (s : Section) (words : List ℕ) (is : IsWhole s words) where
  past : (n : ℕ) → n < length words → need s (take n words) ≡ n → ⊥
  past n more same =
      let due : nat_lt (length (take n words)) (need s (take n words)) ≡ true = is.allowed.due n more in
      let long = length-take-le n words (omega (arith, more)) in
      let less = ltb-true _ _ due in
      omega (arith, long, same, less)

  pub length_is : (n : ℕ) → need s words ≡ n → need s (take n words) ≡ n → length words ≡ n
  length_is n all same =
      let least = ltb-false _ _ is.whole in
      elim (cases_lt n (length words)) [
        | inl more ↦ absurd (past n more same)
        | inr most ↦ omega (arith, all, least, most)
      ]

pub taken_word : (n : ℕ) (words : List ℕ) (i : ℕ) → i < n → slice_index (take n words) i ≡ slice_index words i
taken_word n words i lt = get_or-take n words i 0 lt

-- ---- tests

pub either : (a b : Bool) → (a || b) ≡ true → (a ≡ true) ⊎ (b ≡ true)
either true b e = inl refl
either false b e = inr e

pub is_not : (b : Bool) → not b ≡ true → b ≡ false
is_not true e = absurd cc
is_not false e = refl

pub address_is : (w : ℕ) → is_address w ≡ true → IsWordAddress w
address_is w e =
    let parts = and_parts (w % 4 == 0) (nat_lt w 0x200000) e in
    let whole = eqb-true (w % 4) 0 parts.0 in
    let below = ltb-true w 0x200000 parts.1 in
    omega (arith, whole, below)

-- ---- the front

front_listed : (a b c : ℕ) → IsWhole section.Front (a ∷ b ∷ c ∷ []) → IsFront (a ∷ b ∷ c ∷ [])
front_listed a b c is =
    let height = is.allowed.each 0 (omega arith) in
    let high = ltb-true c 0x80000000 (is.allowed.each 2 (omega arith)) in
    let low : b < 2 ^ 32 = is.allowed.fits 1 (omega arith) in
    let low_again : (b + c * 2 ^ 32) % 2 ^ 32 ≡ b = omega (arith, low) in
    let high_again : (b + c * 2 ^ 32) / 2 ^ 32 ≡ c = omega (arith, low) in
    record {
      spelled = rw (low_again, high_again) refl;
      height = elim (either (a == 512) (a == 1024) height) [
        | inl e ↦ inl (eqb-true a 512 e)
        | inr e ↦ inr (eqb-true a 1024 e)
      ];
      few = omega (arith, high, low);
    }

pub front_is : (words : List ℕ) → IsWhole section.Front words → IsFront words
front_is words is =
    shape3 (λ words. IsWhole section.Front words → IsFront words) front_listed words
    (length_is section.Front words is 3 refl refl) is

-- ---- registers

pub registers_are : (height : ℕ) (words : List ℕ) → IsWhole (section.Registers height) words → IsRegisters height words
registers_are height words is =
    let long : length words ≡ 13 = length_is (section.Registers height) words is 13 refl refl in
    let bits : RegisterBits height words = record {
      each = λ i h.
          let within : i < length words = omega (arith, long, h) in
          let count : length (take i words) ≡ i = length-take-le i words (omega (arith, within)) in
          subst (λ k. is_allowed height k (slice_index words i) ≡ true) count (is.allowed.each i within);
    } in
    record { long = long; bits = bits; spelled = words_again height words long bits }

-- ---- transfers

pub job_tests : (height x y w h at : ℕ) → nat_lt x 1024 ≡ true → nat_lt y height ≡ true → is_within 1 1024 w ≡ true
    → is_within 1 512 h ≡ true → ((at % 2 == 0) && nat_lt at (w * h)) ≡ true
    → IsJob height (record { x = x; y = y; w = w; h = h; at = at })
job_tests height x y w h at left top wide high far =
    let wide = and_parts (nat_le 1 w) (nat_le w 1024) wide in
    let high = and_parts (nat_le 1 h) (nat_le h 512) high in
    let far = and_parts (at % 2 == 0) (nat_lt at (w * h)) far in
    record {
      x = ltb-true x 1024 left;
      y = ltb-true y height top;
      w_some = leb-true 1 w wide.0;
      w = leb-true w 1024 wide.1;
      h_some = leb-true 1 h high.0;
      h = leb-true h 512 high.1;
      even = eqb-true (at % 2) 0 far.0;
      more = ltb-true at (w * h) far.1;
    }

-- ---- the store

module _ (height : ℕ) where
  store_listed : (k x y w h at : ℕ) → IsWhole (section.Store height) (k ∷ x ∷ y ∷ w ∷ h ∷ at ∷ []) → k ≡ 1
      → IsStore height (k ∷ x ∷ y ∷ w ∷ h ∷ at ∷ [])
  store_listed k x y w h at is kind =
      let job = job_tests height x y w h at (is.allowed.each 1 (omega arith)) (is.allowed.each 2 (omega arith))
      (is.allowed.each 3 (omega arith)) (is.allowed.each 4 (omega arith)) (is.allowed.each 5 (omega arith)) in
      rw kind (record { spelled = refl; job = λ e. job; bounds = job })

  store_none : (k : ℕ) → IsWhole (section.Store height) (k ∷ []) → (k == 1) ≡ false → IsStore height (k ∷ [])
  store_none k is other =
      let least = leb-true k 1 (is.allowed.each 0 (omega arith)) in
      let none : k ≡ 0 = elim (cases_lt 0 k) [
        | inl some ↦ absurd (let e : (k == 1) ≡ true = eq-eqb k 1 (omega (arith, some, least)) in cc)
        | inr zero ↦ omega (arith, zero)
      ] in
      rw none (record { spelled = refl; job = λ e. absurd (omega (arith, e)); bounds = tt })

  pub store_is : (words : List ℕ) → IsWhole (section.Store height) words → IsStore height words
  store_is words is =
      let store : Section = section.Store height in
      elim (cases_Bool (slice_index words 0 == 1)) [
        | inl one ↦
            let same : (slice_index (take 6 words) 0 == 1) ≡ true = rw (taken_word 6 words 0 (omega arith)) one in
            shape6 (λ words. IsWhole store words → slice_index words 0 ≡ 1 → IsStore height words)
            (λ k x y w h at is kind. store_listed k x y w h at is kind) words
            (length_is store words is 6 (rw one refl) (rw same refl)) is (eqb-true _ _ one)
        | inr other ↦
            let same : (slice_index (take 1 words) 0 == 1) ≡ false = rw (taken_word 1 words 0 (omega arith)) other in
            shape1 (λ words. IsWhole store words → (slice_index words 0 == 1) ≡ false → IsStore height words)
            (λ k is other. store_none k is other) words
            (length_is store words is 1 (rw other refl) (rw same refl)) is other
      ]
