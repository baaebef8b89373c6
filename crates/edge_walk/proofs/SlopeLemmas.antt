-- The columns that an edge admits, computed by multiplication.
use Rattle.std.proofs.Common.{ℕ, ◌+◌, ◌-◌, ◌*◌, ◌^◌, ◌≤◌, ◌<◌, ◌≡◌, ℤ, pos, negsuc, ◌+ℤ◌, ◌-ℤ◌, ◌*ℤ◌, ◌≤ℤ◌, ◌<ℤ◌, ◌↔◌}
use Rattle.std.proofs.Common.{Bool, true, false, cond, int_lt, unsigned_abs, refl, ap, ◌∙◌, arith}
use Rattle.std.proofs.Math.Nat.{mul-le-mul_left}
use Rattle.std.proofs.lemmas.Int.{ints, by_lt_z, unsigned_abs-mul}
use Rattle.std.proofs.lemmas.Nat.{mul-le}
use Rattle.px_num.proofs.Ring.{at, add, sub, mul, same}
use Rattle.edge_walk.specs.declared.slope.Bound.TheVariants.{AtMost, Above}
use Rattle.px_num.specs.declared.shape.Vertex.{Vertex}
use Rattle.edge_walk.specs.Row.{least_value}
use Rattle.edge_walk.specs.Walk.{IsSlope}
use Rattle.edge_walk.proofs.RowLemmas.{mul_mono}

-- what is added to the column of an edge that is not level
abbrev slack : ℤ
slack = negsuc (2 ^ 20 - 1)

-- a product p, which is k columns plus a small error, compared with w at a scale s
within : (p k w s bit : ℤ) → p ≡ (k +ℤ bit) → (p +ℤ s) ≤ℤ w → pos 2101256 ≤ℤ s → unsigned_abs bit ≤ 522753
    → k ≤ℤ (w +ℤ slack)
within p k w s bit is h steep small = omega (arith, ints, is, h, steep, small)

beyond : (p k w bit : ℤ) → p ≡ (k +ℤ bit) → w ≤ℤ p → unsigned_abs bit ≤ 522753 → (w +ℤ slack) <ℤ k
beyond p k w bit is h small = omega (arith, ints, is, h, small)

-- ---- the least value of an edge

not_under : (a b : ℤ) → a ≤ℤ b → int_lt b a ≡ false
not_under a b h = grind (arith, ints)

under_is : (a b : ℤ) → a <ℤ b → int_lt a b ≡ true
under_is a b h = grind (arith, ints)

least_falling : (p q : Vertex) → p.y <ℤ q.y → least_value p q ≡ pos 1
least_falling p q h = rw (not_under p.y q.y (omega (arith, ints, h)), under_is p.y q.y h) refl

least_rising : (p q : Vertex) → q.y <ℤ p.y → least_value p q ≡ pos 0
least_rising p q h = rw (under_is q.y p.y h) refl

least_level : (p q : Vertex) → q.y ≡ p.y → least_value p q ≡ cond (int_lt p.x q.x) (pos 0) (pos 1)
least_level p q e = rw (e, not_under p.y p.y (omega (arith, ints))) refl

under : (v product : ℤ) → pos 1 ≤ℤ (v -ℤ product) → product <ℤ v
under v product h = omega (arith, ints, h)

above_one : (v product : ℤ) → product <ℤ v → pos 1 ≤ℤ (v -ℤ product)
above_one v product h = omega (arith, ints, h)

under_none : (v product : ℤ) → pos 0 ≤ℤ (v -ℤ product) → product ≤ℤ v
under_none v product h = omega (arith, ints, h)

above_none : (v product : ℤ) → product ≤ℤ v → pos 0 ≤ℤ (v -ℤ product)
above_none v product h = omega (arith, ints, h)

-- ---- slopes

module _ (rows scale : ℕ) (some : 1 ≤ rows) (most : rows ≤ 511) (enough : 2 ^ 30 ≤ scale * rows)
    (close : scale * rows < 2 ^ 30 + rows) where
  over : ℕ
  over = scale * rows - 2 ^ 30

  over_is : scale * rows ≡ 2 ^ 30 + over
  unfolding over
  over_is = omega (arith, enough)

  over_small : over ≤ 511
  over_small = let is = over_is in omega (arith, is, close, most)

  steep : 2101256 ≤ scale
  steep = omega (arith, enough, mul-le-mul_left scale most)

  bit_small : (k : ℤ) → unsigned_abs k ≤ 1023 → unsigned_abs (pos over *ℤ k) ≤ 522753
  bit_small k near = rw unsigned_abs-mul (mul-le over (unsigned_abs k) 511 1023 over_small near)

  product_is : (k : ℤ) → (pos rows *ℤ k) *ℤ pos scale ≡ (k *ℤ pos (2 ^ 30) +ℤ pos over *ℤ k)
  product_is k =
      same (mul (mul (at (pos rows)) (at k)) (at (pos scale))) (mul (at (pos (scale * rows))) (at k)) (omega arith)
      ∙ ap (λ n. pos n *ℤ k) over_is
      ∙ same (mul (at (pos (2 ^ 30 + over))) (at k))
      (add (mul (at k) (at (pos (2 ^ 30)))) (mul (at (pos over)) (at k))) (omega arith)

  one_more : (w : ℤ) → (w +ℤ pos 1) *ℤ pos scale ≡ (w *ℤ pos scale +ℤ pos scale)
  one_more w = same (mul (add (at w) (at (pos 1))) (at (pos scale)))
      (add (mul (at w) (at (pos scale))) (at (pos scale))) (omega arith)

  above : pos 0 <ℤ pos scale
  above = let least = steep in omega (arith, ints, least)

  -- the columns that a falling edge admits, if it has the value v at the column of its first vertex
  falls : (k v : ℤ) → unsigned_abs k ≤ 1023 → ((pos rows *ℤ k) <ℤ v)
      ↔ ((k *ℤ pos (2 ^ 30)) ≤ℤ (v *ℤ pos scale +ℤ slack))
  falls k v near = (to, from)
    where
      to : (pos rows *ℤ k) <ℤ v → (k *ℤ pos (2 ^ 30)) ≤ℤ (v *ℤ pos scale +ℤ slack)
      to less =
          let m = mul_mono (pos scale) (pos rows *ℤ k +ℤ pos 1) v above (omega (arith, ints, less)) in
          let least = steep in
          within ((pos rows *ℤ k) *ℤ pos scale) (k *ℤ pos (2 ^ 30)) (v *ℤ pos scale) (pos scale) (pos over *ℤ k)
          (product_is k) (rw one_more at m) (omega (arith, ints, least)) (bit_small k near)

      out : v ≤ℤ (pos rows *ℤ k) → (v *ℤ pos scale +ℤ slack) <ℤ (k *ℤ pos (2 ^ 30))
      out h = beyond ((pos rows *ℤ k) *ℤ pos scale) (k *ℤ pos (2 ^ 30)) (v *ℤ pos scale) (pos over *ℤ k)
          (product_is k) (mul_mono (pos scale) v (pos rows *ℤ k) above h) (bit_small k near)

      from : (k *ℤ pos (2 ^ 30)) ≤ℤ (v *ℤ pos scale +ℤ slack) → (pos rows *ℤ k) <ℤ v
      from h = by_lt_z (pos rows *ℤ k) v (λ less. less) (λ le. let far = out le in absurd (omega (arith, ints, far, h)))

  rises : (k v : ℤ) → unsigned_abs k ≤ 1023 → (((pos 0 -ℤ pos rows) *ℤ k) ≤ℤ v)
      ↔ ((v *ℤ (pos 0 -ℤ pos scale) +ℤ slack) <ℤ (k *ℤ pos (2 ^ 30)))
  rises k v near = (to, from)
    where
      turned : ((pos rows *ℤ k) <ℤ (pos 0 -ℤ v)) ↔ ((k *ℤ pos (2 ^ 30)) ≤ℤ ((pos 0 -ℤ v) *ℤ pos scale +ℤ slack))
      turned = falls k (pos 0 -ℤ v) near

      product : (pos 0 -ℤ pos rows) *ℤ k ≡ (pos 0 -ℤ pos rows *ℤ k)
      product = same (mul (sub (at (pos 0)) (at (pos rows))) (at k)) (sub (at (pos 0)) (mul (at (pos rows)) (at k)))
          (omega arith)

      far : (pos 0 -ℤ v) *ℤ pos scale ≡ v *ℤ (pos 0 -ℤ pos scale)
      far = same (mul (sub (at (pos 0)) (at v)) (at (pos scale))) (mul (at v) (sub (at (pos 0)) (at (pos scale))))
          (omega arith)

      to : ((pos 0 -ℤ pos rows) *ℤ k) ≤ℤ v → (v *ℤ (pos 0 -ℤ pos scale) +ℤ slack) <ℤ (k *ℤ pos (2 ^ 30))
      to h = by_lt_z (v *ℤ (pos 0 -ℤ pos scale) +ℤ slack) (k *ℤ pos (2 ^ 30)) (λ less. less)
          (λ le. let below = turned.1 (rw far le) in absurd (omega (arith, ints, below, product, h)))

      from : (v *ℤ (pos 0 -ℤ pos scale) +ℤ slack) <ℤ (k *ℤ pos (2 ^ 30)) → ((pos 0 -ℤ pos rows) *ℤ k) ≤ℤ v
      from h = by_lt_z v ((pos 0 -ℤ pos rows) *ℤ k)
          (λ less. let left = rw far at (turned.0 (omega (arith, ints, product, less))) in
          absurd (omega (arith, ints, left, h))) (λ le. le)

  pub falling_is : (p q : Vertex) (by : ℤ) → by ≡ pos scale → scale ≤ 2 ^ 30 → (q.y -ℤ p.y) ≡ pos rows
      → IsSlope p q (record { bound = AtMost; scale = by; slack = slack })
  falling_is p q by is small fall = rw is
      (record { solves = solves; scale = omega (arith, ints, small); slack = omega (arith, ints) })
    where
      least : least_value p q ≡ pos 1
      least = least_falling p q (omega (arith, ints, fall, some))

      solves : (k v : ℤ) → unsigned_abs k ≤ 1023 → (least_value p q ≤ℤ (v -ℤ (q.y -ℤ p.y) *ℤ k))
          ↔ ((k *ℤ pos (2 ^ 30)) ≤ℤ (v *ℤ pos scale +ℤ slack))
      solves k v near =
          let f = falls k v near in
          rw (least, fall) (
            λ h. f.0 (under v (pos rows *ℤ k) h),
            λ h. above_one v (pos rows *ℤ k) (f.1 h),
          )

  pub rising_is : (p q : Vertex) (by : ℤ) → by ≡ (pos 0 -ℤ pos scale) → scale ≤ 2 ^ 30
      → (q.y -ℤ p.y) ≡ (pos 0 -ℤ pos rows)
      → IsSlope p q (record { bound = Above; scale = by; slack = slack })
  rising_is p q by is small fall = rw is
      (record { solves = solves; scale = omega (arith, ints, small); slack = omega (arith, ints) })
    where
      least : least_value p q ≡ pos 0
      least = least_rising p q (omega (arith, ints, fall, some))

      solves : (k v : ℤ) → unsigned_abs k ≤ 1023 → (least_value p q ≤ℤ (v -ℤ (q.y -ℤ p.y) *ℤ k))
          ↔ ((v *ℤ (pos 0 -ℤ pos scale) +ℤ slack) <ℤ (k *ℤ pos (2 ^ 30)))
      solves k v near =
          let f = rises k v near in
          rw (least, fall) (
            λ h. f.0 (under_none v ((pos 0 -ℤ pos rows) *ℤ k) h),
            λ h. above_none v ((pos 0 -ℤ pos rows) *ℤ k) (f.1 h),
          )

no_fall : (k : ℤ) → pos 0 *ℤ k ≡ pos 0
no_fall k = same (mul (at (pos 0)) (at k)) (at (pos 0)) (omega arith)

level_right : (k v : ℤ) → unsigned_abs k ≤ 1023 → (pos 0 ≤ℤ (v -ℤ pos 0 *ℤ k))
    ↔ ((k *ℤ pos (2 ^ 30)) ≤ℤ (v *ℤ pos (2 ^ 41) +ℤ pos (2 ^ 40)))
level_right k v near = let e = no_fall k in (
  λ h. omega (arith, ints, near, h, e),
  λ h. by_lt_z v (pos 0) (λ less. absurd (omega (arith, ints, near, h, less)))
      (λ le. omega (arith, ints, e, le)),
)

level_left : (k v : ℤ) → unsigned_abs k ≤ 1023 → (pos 1 ≤ℤ (v -ℤ pos 0 *ℤ k))
    ↔ ((k *ℤ pos (2 ^ 30)) ≤ℤ (v *ℤ pos (2 ^ 41) +ℤ negsuc (2 ^ 40 - 1)))
level_left k v near = let e = no_fall k in (
  λ h. omega (arith, ints, near, h, e),
  λ h. by_lt_z v (pos 1) (λ less. absurd (omega (arith, ints, near, h, less)))
      (λ le. omega (arith, ints, e, le)),
)

pub level_is : (p q : Vertex) (right : Bool) (slack : ℤ) → q.y ≡ p.y → int_lt p.x q.x ≡ right
    → slack ≡ cond right (pos (2 ^ 40)) (negsuc (2 ^ 40 - 1))
    → IsSlope p q (record { bound = AtMost; scale = pos (2 ^ 41); slack = slack })
level_is p q true slack level to is =
    let fall : (q.y -ℤ p.y) ≡ pos 0 = omega (arith, ints, level) in
    rw is (record {
      solves = λ k v near. rw (least_level p q level ∙ ap (λ b. cond b (pos 0) (pos 1)) to, fall)
          (level_right k v near);
      scale = omega (arith, ints);
      slack = omega (arith, ints);
    })
level_is p q false slack level to is =
    let fall : (q.y -ℤ p.y) ≡ pos 0 = omega (arith, ints, level) in
    rw is (record {
      solves = λ k v near. rw (least_level p q level ∙ ap (λ b. cond b (pos 0) (pos 1)) to, fall)
          (level_left k v near);
      scale = omega (arith, ints);
      slack = omega (arith, ints);
    })
