-- A walk in progress.
use Rattle.std.proofs.Common.{◌≡◌, ◌≢◌, ℕ, suc, ◌+◌, ◌-◌, ◌*◌, ◌<◌, List, ◌∷◌, length, true, false, sym, ◌∙◌, ap, arith}
use Rattle.std.proofs.Common.{inl, inr, ne_eqb}
use Rattle.std.specs.Prelude.{Option, Some, None, ◌==◌}
use Rattle.std.specs.List.{list_any}
use Rattle.std.proofs.lemmas.Bool.{cases_eq, eq-eqb}
use Rattle.ot_clear_dma.specs.Ram.{place_of, cut}
use Rattle.list_dma.specs.Node.{is_end, next_of}
use Rattle.list_dma.specs.Walk.{chain, repeat_after}
use Rattle.list_dma.specs.Marks.{is_marked}

-- at most `left` nodes of the walk remain from `address` on; the nodes before are the marked ones
pub record IsOnWay (ram marks : List ℕ) (address left count : ℕ) (loops : Option ℕ) (long : ℕ) : Type 0 where
  pub seen : List ℕ
  pub marked : (place : ℕ) → is_marked marks place ≡ list_any (◌==◌ (place * 4)) seen
  pub repeats : repeat_after seen (chain ram address left) ≡ loops
  pub counts : count + length (chain ram address left) ≡ long

pub ended : (ram marks : List ℕ) (address limit k : ℕ) (loops : Option ℕ) (long : ℕ)
    → IsOnWay ram marks address (limit - k) k loops long → k < limit → is_end address ≡ true → loops ≡ None
unfolding chain
ended ram marks address limit k loops long way below end =
    let e : limit - k ≡ suc (limit - (k + 1)) = omega (arith, below) in
    let r = way.repeats in
    let r2 = rw (e, end) at r in
    sym r2

pub ended_long : (ram marks : List ℕ) (address limit k : ℕ) (loops : Option ℕ) (long : ℕ)
    → IsOnWay ram marks address (limit - k) k loops long → k < limit → is_end address ≡ true → k ≡ long
unfolding chain
ended_long ram marks address limit k loops long way below end =
    let e : limit - k ≡ suc (limit - (k + 1)) = omega (arith, below) in
    let n = way.counts in
    let n2 = rw (e, end) at n in
    omega (arith, n2)

pub met : (ram marks : List ℕ) (address limit k : ℕ) (loops : Option ℕ) (long : ℕ)
    → IsOnWay ram marks address (limit - k) k loops long → k < limit → is_end address ≡ false
    → is_marked marks (place_of address) ≡ true → loops ≡ Some (cut address)
unfolding chain
met ram marks address limit k loops long way below on mark =
    let e : limit - k ≡ suc (limit - (k + 1)) = omega (arith, below) in
    let m : list_any (◌==◌ (cut address)) way.seen ≡ true = sym (way.marked (place_of address)) ∙ mark in
    let r = way.repeats in
    let r2 = rw (e, on, m) at r in
    sym r2

pub stepped : (ram marks new : List ℕ) (address limit k : ℕ) (loops : Option ℕ) (long : ℕ)
    → IsOnWay ram marks address (limit - k) k loops long → k < limit → is_end address ≡ false
    → is_marked marks (place_of address) ≡ false → is_marked new (place_of address) ≡ true
    → ((j : ℕ) → j ≢ place_of address → is_marked new j ≡ is_marked marks j)
    → IsOnWay ram new (next_of ram (cut address)) (limit - (k + 1)) (k + 1) loops long
unfolding chain
stepped ram marks new address limit k loops long way below on mark here others =
    let e : limit - k ≡ suc (limit - (k + 1)) = omega (arith, below) in
    let m : list_any (◌==◌ (cut address)) way.seen ≡ false = sym (way.marked (place_of address)) ∙ mark in
    let r = way.repeats in
    let n = way.counts in
    let r2 = rw (e, on, m) at r in
    let n2 = rw (e, on) at n in
    record {
      seen = cut address ∷ way.seen;
      marked = λ j. elim (cases_eq j (place_of address)) [
        | inl same ↦ rw (eq-eqb (j * 4) (cut address) (ap (λ x. x * 4) same), same) here
        | inr other ↦ rw (ne_eqb (j * 4) (cut address) (omega (arith, other))) (others j other ∙ way.marked j)
      ];
      repeats = r2;
      counts = omega (arith, n2);
    }
