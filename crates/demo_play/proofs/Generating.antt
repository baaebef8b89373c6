-- The words of a demo, in order.
use Rattle.std.proofs.Common.{◌≡◌, ◌≤◌, ◌<◌, ◌+◌, ◌%◌, ◌++◌, ℕ, zero, suc, List, [], ◌∷◌, map, flat_map, length}
use Rattle.std.proofs.Common.{slice_index, arith, refl, ap, ◌∙◌}
use Rattle.std.specs.List.{range_with_len}
use Rattle.std.proofs.lemmas.Grind.{flat_map-append}
use Rattle.std.proofs.lemmas.List.{append-nil, map-id}
use Rattle.std.proofs.lemmas.List.FromFn.{map-range_with_len_more, length-map-range_with_len}
use Rattle.demo_play.specs.Demo.{opcodes, lengths, length_of, drawn, after_draws, packet_word}
use Rattle.demo_play.specs.Demo.{number_before}

-- every packet of eight in turn has a length and an opcode
turn_small : (i : ℕ) → i < 8 → (slice_index lengths i ≤ 12) × (slice_index opcodes i < 256)
turn_small zero lt = (omega arith, omega arith)
turn_small (suc zero) lt = (omega arith, omega arith)
turn_small (suc (suc zero)) lt = (omega arith, omega arith)
turn_small (suc (suc (suc zero))) lt = (omega arith, omega arith)
turn_small (suc (suc (suc (suc zero)))) lt = (omega arith, omega arith)
turn_small (suc (suc (suc (suc (suc zero))))) lt = (omega arith, omega arith)
turn_small (suc (suc (suc (suc (suc (suc zero)))))) lt = (omega arith, omega arith)
turn_small (suc (suc (suc (suc (suc (suc (suc zero))))))) lt = (omega arith, omega arith)
turn_small (suc (suc (suc (suc (suc (suc (suc (suc i)))))))) lt = absurd (omega (arith, lt))

pub length_small : (k : ℕ) → length_of k ≤ 12
length_small k = (turn_small (k % 8) (omega arith)).0

-- the words before one of a packet
pub words_before : (k number j : ℕ) → length (map (packet_word k number) (range_with_len 0 j)) ≡ j
words_before k number j = length-map-range_with_len (packet_word k number) 0 j

pub words_on : (k number j word : ℕ) (words now : List ℕ) → now ≡ words ++ word ∷ []
    → words ≡ map (packet_word k number) (range_with_len 0 j)
    → word ≡ packet_word k number j → now ≡ map (packet_word k number) (range_with_len 0 (j + 1))
words_on k number j word words now is before next =
    let more = map-range_with_len_more (packet_word k number) 0 j j (omega arith) in
    rw (is, before, next, more) refl

pub draws_more : (n number : ℕ) → drawn (after_draws n number) ≡ after_draws (n + 1) number
draws_more n number = let e : n + 1 ≡ suc n = omega arith in rw e refl

pub lists_more : (f : ℕ → List ℕ) (k : ℕ)
    → flat_map f (range_with_len 0 (k + 1)) ≡ flat_map f (range_with_len 0 k) ++ f k
lists_more f k =
    let below : range_with_len 0 (k + 1) ≡ range_with_len 0 k ++ k ∷ [] =
    simp map-id at (map-range_with_len_more (λ (x : ℕ). x) 0 k k (omega arith))
    in
    ap (flat_map f) below ∙ flat_map-append f (range_with_len 0 k) (k ∷ [])
    ∙ ap (λ xs. flat_map f (range_with_len 0 k) ++ xs) (append-nil (f k))

-- the state of the generator after a packet
pub number_on : (n k number now : ℕ) → now ≡ after_draws (length_of k) number → number ≡ number_before n k
    → now ≡ number_before n (k + 1)
number_on n k number now is at = let e : k + 1 ≡ suc k = omega arith in rw (e, ← at) is
