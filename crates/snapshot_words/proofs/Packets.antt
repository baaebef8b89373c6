-- Words of an incomplete item.
use Rattle.std.proofs.Common.{◌≡◌, ◌≤◌, ◌<◌, ◌+◌, ◌-◌, min, List, [], ◌∷◌, ℕ, suc, true, false, length, take}
use Rattle.std.proofs.Common.{slice_index}
use Rattle.std.proofs.Common.{nat_lt, nat_le, ◌==◌, refl, sym, ◌∙◌, arith}
use Rattle.std.proofs.lemmas.Bool.{ltb-true, leb-true, eq-eqb, ne_eqb, and_parts}
use Rattle.std.proofs.lemmas.List.{length-take-le}
use Rattle.gp0_words.specs.Kinds.{first_len_of}
use Rattle.snapshot_words.specs.Sections.{allows, allows_packet, IsWhole}
use Rattle.snapshot_words.specs.declared.section.Section.TheVariants as section
use Rattle.snapshot_words.proofs.Shapes.{length_is, taken_word}

-- 1, a count, and as many words of an incomplete item
pub record IsPacketPart (words : List ℕ) : Type 0 where
  pub some : 1 ≤ slice_index words 1
  pub few : slice_index words 1 ≤ 11
  pub long : length words ≡ 2 + slice_index words 1
  pub part : slice_index words 1 < first_len_of (slice_index words 2)

-- the last word of an incomplete item
last_part : (k n w : ℕ) (got : List ℕ) (word : ℕ) → allows_packet (k ∷ n ∷ w ∷ got) word ≡ true
    → length got + 2 < first_len_of w
last_part k n w got word may =
    let one : (length (k ∷ n ∷ w ∷ got) == 1) ≡ false =
    ne_eqb (length (k ∷ n ∷ w ∷ got)) 1 (λ e. absurd (omega (arith, e))) in
    let two : (length (k ∷ n ∷ w ∷ got) == 2) ≡ false =
    ne_eqb (length (k ∷ n ∷ w ∷ got)) 2 (λ e. absurd (omega (arith, e))) in
    let short : nat_lt (length (k ∷ n ∷ w ∷ got) - 1) (first_len_of w) ≡ true = rw (one, two) at may in
    let lt = ltb-true _ _ short in
    omega (arith, lt)

pub allows_after : (height k n : ℕ) (got : List ℕ) (word : ℕ) → k ≡ 1
    → allows (section.Pending height) (k ∷ n ∷ got) word ≡ allows_packet (k ∷ n ∷ got) word
allows_after height k n got word is =
    let none : (length (k ∷ n ∷ got) == 0) ≡ false = ne_eqb (length (k ∷ n ∷ got)) 0 (λ e. absurd (omega (arith, e))) in
    let first : (k == 1) ≡ true = eq-eqb k 1 is in
    rw (none, first) refl

module _ (height : ℕ) where
  part_is : (k n w : ℕ) (more : List ℕ) → IsWhole (section.Pending height) (k ∷ n ∷ w ∷ more) → k ≡ 1
      → n ≡ length more + 1
      → n < first_len_of w
  part_is k n w [] is kind count =
      let may : nat_lt 1 (first_len_of w) ≡ true =
      sym (allows_after height k n [] w kind) ∙ is.allowed.each 2 (omega arith) in
      let lt = ltb-true 1 (first_len_of w) may in
      omega (arith, lt, count)
  part_is k n w (v ∷ vs) is kind count =
      let i = suc (suc (suc (length vs))) in
      let long = length-take-le (length vs) (v ∷ vs) (omega arith) in
      let may = sym (allows_after height k n (w ∷ take (length vs) (v ∷ vs)) (slice_index (k ∷ n ∷ w ∷ v ∷ vs) i) kind)
      ∙ is.allowed.each i (omega arith) in
      let lt = last_part k n w (take (length vs) (v ∷ vs)) (slice_index (k ∷ n ∷ w ∷ v ∷ vs) i) may in
      omega (arith, lt, count, long)

  listed : (words : List ℕ) → IsWhole (section.Pending height) words → slice_index words 0 ≡ 1
      → length words ≡ 2 + min (slice_index words 1) 11 → IsPacketPart words
  listed [] is kind long = absurd (omega (arith, long))
  listed (k ∷ []) is kind long = absurd (omega (arith, long))
  listed (k ∷ n ∷ []) is kind long =
      let bounds = and_parts (nat_le 1 n) (nat_le n 11) (rw (eq-eqb k 1 kind) at (is.allowed.each 1 (omega arith))) in
      let some = leb-true 1 n bounds.0 in
      absurd (omega (arith, some, long))
  listed (k ∷ n ∷ w ∷ more) is kind long =
      let bounds = and_parts (nat_le 1 n) (nat_le n 11) (rw (eq-eqb k 1 kind) at (is.allowed.each 1 (omega arith))) in
      let most = leb-true n 11 bounds.1 in
      record {
        some = leb-true 1 n bounds.0;
        few = most;
        long = omega (arith, long, most);
        part = part_is k n w more is kind (omega (arith, long, most));
      }

  pub packet_is : (words : List ℕ) → IsWhole (section.Pending height) words → slice_index words 0 ≡ 1
      → IsPacketPart words
  packet_is words is kind =
      let n = 2 + min (slice_index words 1) 11 in
      let zeroth : slice_index (take n words) 0 ≡ 1 = taken_word n words 0 (omega arith) ∙ kind in
      let first : slice_index (take n words) 1 ≡ slice_index words 1 = taken_word n words 1 (omega arith) in
      listed words is kind (length_is (section.Pending height) words is n (rw kind refl) (rw (zeroth, first) refl))
