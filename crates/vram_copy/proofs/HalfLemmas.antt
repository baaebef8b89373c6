-- The bytes of words, read as halfwords.
use Rattle.std.proofs.Common.{◌≡◌, ◌<◌, ◌+◌, ◌*◌, ◌/◌, ◌%◌, ◌^◌, ℕ, zero, suc, List, [], ◌∷◌, get_or, Fits, w32, arith}
use Rattle.std.proofs.Common.{refl, ap, ◌∙◌}
use Rattle.std.specs.Simd.Lanes.{Each1, chunk, number_l, digits_l}
use Rattle.std.proofs.lemmas.Simd.{get_or_wider, get_or_narrower, get_or-chunk, chunk-fits, below_from_Fits}
use Rattle.vram_copy.specs.Words.{half_of, pixel_of}

pair : (p i : ℕ) (xs : List ℕ) → number_l p (chunk i 2 xs) ≡ get_or xs i 0 + p * get_or xs (suc i) 0
pair p zero [] = omega arith
pair p zero (x ∷ []) = omega arith
pair p zero (x ∷ y ∷ xs) = grind arith
pair p (suc i) [] = omega arith
pair p (suc i) (x ∷ xs) = pair p i xs

digits_below : (q n x : ℕ) → 0 < q → Each1 (λ d. d < q) (digits_l q n x)
digits_below q zero x some = tt
digits_below q (suc n) x some = (omega (arith, some), digits_below q n (x / q) some)

halves : (word r : ℕ) → r < 2 → word / 256 ^ (2 * r) % 256 + 256 * (word / 256 ^ (2 * r + 1) % 256) ≡ half_of word r
halves word zero lt = omega arith
halves word (suc zero) lt = omega arith
halves word (suc (suc r)) lt = absurd (omega (arith, lt))

-- eight words, split into 32 bytes and joined to sixteen halfwords
pub half_is : (words : List ℕ) (at j n8 n16 : ℕ) → n8 ≡ 32 → n16 ≡ 16 → ((k : ℕ) → Fits w32 (get_or words k 0)) → j < 16
    → get_or (digits_l (2 ^ 16) n16 (number_l 256 (digits_l 256 n8 (number_l (2 ^ 32) (chunk at 8 words))))) j 0
    ≡ half_of (get_or words (at + j / 2) 0) (j % 2)
half_is words at j n8 n16 e f fit lt =
    let eight : List ℕ = chunk at 8 words in
    let bytes : List ℕ = digits_l 256 n8 (number_l (2 ^ 32) eight) in
    let below : Each1 (λ x. x < 2 ^ 32) eight = below_from_Fits w32 eight (chunk-fits w32 at 8 words fit) in
    let low : 2 * j ≡ 4 * (j / 2) + 2 * (j % 2) = omega arith in
    let high : suc (2 * j) ≡ 4 * (j / 2) + (2 * (j % 2) + 1) = omega arith in
    let word : get_or eight (j / 2) 0 ≡ get_or words (at + j / 2) 0 = get_or-chunk at 8 words (j / 2) 0
    (omega (arith, lt)) in
    get_or_wider 256 2 (2 ^ 16) n16 bytes j refl (digits_below 256 n8 (number_l (2 ^ 32) eight) (omega arith))
    (omega (arith, f, lt))
    ∙ pair 256 (2 * j) bytes
    ∙ ap (λ b. b + 256 * get_or bytes (suc (2 * j)) 0)
    (ap (λ k. get_or bytes k 0) low ∙ get_or_narrower (2 ^ 32) 4 256 n8 eight (j / 2) (2 * (j % 2)) refl below
    (omega arith) (omega (arith, e, lt)))
    ∙ ap (λ b. get_or eight (j / 2) 0 / 256 ^ (2 * (j % 2)) % 256 + 256 * b)
    (ap (λ k. get_or bytes k 0) high ∙ get_or_narrower (2 ^ 32) 4 256 n8 eight (j / 2) (2 * (j % 2) + 1) refl below
    (omega arith) (omega (arith, e, lt)))
    ∙ halves (get_or eight (j / 2) 0) (j % 2) (omega arith)
    ∙ ap (λ w. half_of w (j % 2)) word

-- pixel j after an even one
pub pixel_behind : (words : List ℕ) (first j : ℕ) → first % 2 ≡ 0
    → half_of (get_or words (first / 2 + j / 2) 0) (j % 2) ≡ pixel_of words (first + j)
pixel_behind words first j whole =
    let half : (first + j) % 2 ≡ j % 2 = omega (arith, whole) in
    let number : (first + j) / 2 ≡ first / 2 + j / 2 = omega (arith, whole) in
    rw (half, number) refl
