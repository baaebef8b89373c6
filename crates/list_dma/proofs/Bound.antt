-- A walk that visits no address twice has no more nodes than there are addresses, and ends.
use Rattle.std.proofs.Common.{◌≡◌, ℕ, zero, suc, ◌+◌, ◌*◌, ◌^◌, ◌<◌, ◌≤◌, List, [], ◌∷◌, length, map, Bool, true, false}
use Rattle.std.proofs.Common.{eqb, refl, sym, ap, arith, inl, inr, true≢false}
use Rattle.std.specs.Prelude.{None, ◌==◌}
use Rattle.std.specs.List.{list_any, IsDistinct, AllByRecursion, range_with_len}
use Rattle.std.specs.Cmp.{nat_eq_equiv}
use Rattle.std.proofs.lemmas.Bool.{cases_Bool, eq-eqb, eqb-true}
use Rattle.std.proofs.lemmas.Option.{none-some}
use Rattle.std.proofs.lemmas.List.Folds.{list_any_at}
use Rattle.std.proofs.lemmas.List.FromFn.{length-map-range_with_len, get_or-map-range_with_len}
use Rattle.std.proofs.lemmas.Map.Made.{length-le_from_is_member}
use Rattle.std.proofs.lemmas.Map.Keys.{IsDistinct-cons}
use Rattle.ot_clear_dma.specs.Ram.{place_of, cut}
use Rattle.list_dma.specs.Node.{is_end, next_of}
use Rattle.list_dma.specs.Walk.{chain, repeat_after}

-- the addresses of the first m words
addresses : ℕ → List ℕ
addresses m = map (λ place. place * 4) (range_with_len 0 m)

length-addresses : (m : ℕ) → length (addresses m) ≡ m
unfolding addresses
length-addresses m = length-map-range_with_len (λ place. place * 4) 0 m

in_addresses : (m place : ℕ) → place < m → list_any (◌==◌ (place * 4)) (addresses m) ≡ true
unfolding addresses
in_addresses m place below =
    list_any_at (◌==◌ (place * 4)) (map (λ p. p * 4) (range_with_len 0 m)) place 0 (rw length-map-range_with_len below)
    (rw (get_or-map-range_with_len (λ p. p * 4) 0 m place place 0 below (omega arith))
    (eq-eqb (place * 4) (place * 4) refl))

none_passes : (p : ℕ → Bool) (xs : List ℕ) → list_any p xs ≡ false → AllByRecursion (λ y. p y ≡ false) xs
none_passes p [] none = tt
none_passes p (x ∷ xs) none = elim (cases_Bool (p x)) [
  | inl hit ↦ absurd (true≢false (rw hit at none))
  | inr miss ↦ (miss, none_passes p xs (rw miss at none))
]

-- the nodes in `seen` and the remaining ones are among the addresses
bounded : (ram addresses seen : List ℕ) (address n : ℕ) → ((a : ℕ) → list_any (◌==◌ (cut a)) addresses ≡ true)
    → ((q : ℕ) → list_any (◌==◌ q) seen ≡ true → list_any (◌==◌ q) addresses ≡ true)
    → IsDistinct eqb seen → repeat_after seen (chain ram address n) ≡ None
    → length seen + length (chain ram address n) ≤ length addresses
unfolding chain
bounded ram addresses seen address zero all within distinct none =
    let most = length-le_from_is_member nat_eq_equiv seen addresses distinct within in
    omega (arith, most)
bounded ram addresses seen address (suc n) all within distinct none = elim (cases_Bool (is_end address)) [
  | inl end ↦
      let most = length-le_from_is_member nat_eq_equiv seen addresses distinct within in
      rw end (omega (arith, most))
  | inr on ↦ elim (cases_Bool (list_any (◌==◌ (cut address)) seen)) [
    | inl met ↦
        let bad = rw (on, met) at none in
        absurd (none-some _ (sym bad))
    | inr new ↦
        let none2 = rw (on, new) at none in
        let within2 : (q : ℕ) → list_any (◌==◌ q) (cut address ∷ seen) ≡ true → list_any (◌==◌ q) addresses
        ≡ true = λ q is.
        elim (cases_Bool (q == cut address)) [
          | inl same ↦ rw (eqb-true q (cut address) same) (all address)
          | inr other ↦ within q (rw other at is)
        ] in
        let distinct2 = IsDistinct-cons eqb (cut address) seen (none_passes _ _ new) distinct in
        let rest = bounded ram addresses (cut address ∷ seen) (next_of ram (cut address)) n all within2 distinct2
        none2 in
        rw on (omega (arith, rest))
  ]
]

pub walk_ends : (ram : List ℕ) (start n m : ℕ) → repeat_after [] (chain ram start n) ≡ None → 2 ^ 19 ≤ m
    → length (chain ram start n) ≤ m
unfolding IsDistinct
walk_ends ram start n m none large =
    let b = bounded ram (addresses m) [] start n (λ a. in_addresses m (place_of a) (omega (arith, large)))
    (λ q is. absurd (true≢false (sym is))) tt none in
    omega (arith, b, length-addresses m)

-- a chain that has ended does not change with a larger limit
pub chain_stays : (ram : List ℕ) (start n m : ℕ) → length (chain ram start n) < n → n ≤ m → chain ram start m
    ≡ chain ram start n
unfolding chain
chain_stays ram start zero m short most = absurd (omega (arith, short))
chain_stays ram start (suc n) zero short most = absurd (omega (arith, most))
chain_stays ram start (suc n) (suc m) short most = elim (cases_Bool (is_end start)) [
  | inl end ↦ rw end refl
  | inr on ↦
      let short2 = rw on at short in
      rw on (ap (λ nodes. cut start ∷ nodes)
      (chain_stays ram (next_of ram (cut start)) n m (omega (arith, short2)) (omega (arith, most))))
]
