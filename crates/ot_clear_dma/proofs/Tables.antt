-- The values of the words of a cleared table.
use Rattle.std.proofs.Common.{◌≡◌, ◌≢◌, ◌<◌, ◌≤◌, ℕ, zero, suc, List, ◌+◌, ◌-◌, ◌^◌, length, get_or, refl, sym, ◌∙◌}
use Rattle.std.proofs.Common.{arith, inl, inr}
use Rattle.std.proofs.lemmas.List.{length-set, get_or-set_same, get_or-set_other}
use Rattle.std.proofs.lemmas.Bool.{cases_lt}
use Rattle.px_num.specs.Fold.{each_below}
use Rattle.ot_clear_dma.specs.Ram.{place_of, cut, word_at}
use Rattle.ot_clear_dma.specs.Table.{below, end_mark, linked, cleared_table, IsOrderingTable}

-- no two words of a table have the same index
apart : (first i k : ℕ) → i < k → k < 65536 → place_of (below first i) ≢ place_of (below first k)
unfolding below
apart first i k less most = λ same. omega (arith, less, most, same)

-- one word further down is 4 bytes further down
next : (first k : ℕ) → k < 65536 → below (below first k) 1 ≡ below first (k + 1)
unfolding below
next first k most = omega (arith, most)

-- an address that is none of the table's has another index
elsewhere : (address first k : ℕ) → cut address ≢ below first k → place_of address ≢ place_of (below first k)
unfolding below
elsewhere address first k other = λ same. other (omega (arith, same))

kept_long : (ram : List ℕ) (first n : ℕ) → length (each_below (linked first) n ram) ≡ length ram
kept_long ram first zero = refl
kept_long ram first (suc n) = length-set (each_below (linked first) n ram) (place_of (below first n)) _
    ∙ kept_long ram first n

-- memory after the first n words are written
record IsLinked (old new : List ℕ) (first n : ℕ) : Type 0 where
  links : (k : ℕ) → k < n → word_at new (below first k) ≡ below (below first k) 1
  others : (place : ℕ) → ((k : ℕ) → k < n → place ≢ place_of (below first k)) → get_or new place 0 ≡ get_or old place 0

linked_words : (ram : List ℕ) (first n : ℕ) → n ≤ 65536 → length ram ≡ 2 ^ 19
    → IsLinked ram (each_below (linked first) n ram) first n
linked_words ram first zero most long =
    record { links = λ k lt. absurd (omega (arith, lt)); others = λ place away. refl }
linked_words ram first (suc n) most long =
    let before = linked_words ram first n (omega (arith, most)) long in
    let now = each_below (linked first) n ram in
    let here = place_of (below first n) in
    let room : here < length now = omega (arith, kept_long ram first n, long) in
    record {
      links = λ k lt. elim (cases_lt k n) [
        | inl less ↦ get_or-set_other now here (place_of (below first k)) _ 0
            (apart first k n less (omega (arith, most))) ∙ before.links k less
        | inr not_less ↦
            let same : k ≡ n = omega (arith, lt, not_less) in
            rw same (get_or-set_same now here _ 0 room)
      ];
      others = λ place away. get_or-set_other now here place _ 0 (away n (omega arith))
          ∙ before.others place (λ k lt. away k (omega (arith, lt)));
    }

pub table : (ram : List ℕ) (first n : ℕ) → 1 ≤ n → n ≤ 65536 → length (cleared_table ram first n) ≡ 2 ^ 19
    → IsOrderingTable ram (cleared_table ram first n) first n
unfolding cleared_table
table ram first n some most long =
    let before = each_below (linked first) (n - 1) ram in
    let here = place_of (below first (n - 1)) in
    let long_before : length before ≡ 2 ^ 19 = sym (length-set before here end_mark) ∙ long in
    let so_far = linked_words ram first (n - 1) (omega (arith, most))
    (sym (kept_long ram first (n - 1)) ∙ long_before) in
    record {
      links = λ k lt.
          get_or-set_other before here (place_of (below first k)) _ 0
          (apart first k (n - 1) (omega (arith, lt)) (omega (arith, some, most)))
          ∙ so_far.links k (omega (arith, lt)) ∙ next first k (omega (arith, lt, most));
      last = get_or-set_same before here end_mark 0 (omega (arith, long_before));
      others = λ address away.
          get_or-set_other before here (place_of address) _ 0
          (elsewhere address first (n - 1) (away (n - 1) (omega (arith, some))))
          ∙ so_far.others (place_of address) (λ k lt. elsewhere address first k (away k (omega (arith, lt))));
    }
