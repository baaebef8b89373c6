-- An upper bound of the cost of a span.
use Rattle.std.proofs.Common.{◌≡◌, ◌≤◌, ℕ, zero, suc, List, Option, None, Some, Bool, true, false, cond, ltb, ◌+◌, ◌-◌}
use Rattle.std.proofs.Common.{◌*◌, ◌/◌, min, refl, subst, add-one, arith}
use Rattle.texel_lanes.specs.declared.texture.Texture.{Texture}
use Rattle.span_lanes.specs.declared.span.Span.{Span}
use Rattle.span_lanes.specs.Hazard.Guard.{has_hazard, paint_texels, clut_of, target}
use Rattle.span_lanes.specs.Shade.{texture_of}
use Rattle.overlap_guard.specs.Hazard.{has_texture_hazard}
use Rattle.px_num.specs.declared.shape.Cell.{Cell}
use Rattle.texel_lanes.specs.Texture.{texel_steps}
use Rattle.span_lanes.specs.Cost.{texture_steps, paint_steps, steps_of, chunk_cost, chunks_cost, span_cost}
use Rattle.span_lanes.specs.Laws.{CostLaw}

steps_small : (b : Bool) (p k : ℕ) → p ≤ 2 → 1 ≤ k → steps_of b p k ≤ 4 * k
steps_small true zero k low some = omega arith
steps_small true (suc zero) k low some = omega arith
steps_small true (suc (suc zero)) k low some = omega arith
steps_small true (suc (suc (suc p))) k low some = absurd (omega arith)
steps_small false zero k low some = omega arith
steps_small false (suc zero) k low some = omega arith
steps_small false (suc (suc zero)) k low some = omega arith
steps_small false (suc (suc (suc p))) k low some = absurd (omega arith)

two_or_one : (b : Bool) → cond b 2 1 ≤ 2
two_or_one true = omega arith
two_or_one false = omega arith

texture_small : (t : Option Texture) → texture_steps t ≤ 2
texture_small None = omega arith
texture_small (Some t) = two_or_one (ltb t.page.depth 2)

chunks_small : (span : Span) (c : ℕ) → c ≤ (span.n + 15) / 16 → chunks_cost span c ≤ 4 * min (16 * c) span.n
chunks_small span zero le = omega arith
chunks_small span (suc c) le =
    let so_far = chunks_small span c (omega arith) in
    let k : ℕ = min (span.n - 16 * c) 16 in
    let next = steps_small (has_hazard span (16 * c) (min (span.n - 16 * c) 16)) (paint_steps span.paint)
    (min (span.n - 16 * c) 16) (texture_small (texture_of span.paint)) (omega arith) in
    joined (chunks_cost span c) (chunk_cost span (16 * c) (min (span.n - 16 * c) 16)) c span.n le so_far next
  where
    joined : (a b c n : ℕ) → suc c ≤ (n + 15) / 16 → a ≤ 4 * min (16 * c) n → b ≤ 4 * min (n - 16 * c) 16
        → a + b ≤ 4 * min (16 * suc c) n
    joined a b c n le f g = omega arith

pub cost_law : CostLaw
unfolding span_cost
cost_law span =
    let all : min (16 * ((span.n + 15) / 16)) span.n ≡ span.n = omega arith in
    rw all at (chunks_small span ((span.n + 15) / 16) (omega arith))

-- one more chunk
pub cost_more : (span : Span) (at k before now next : ℕ) → k ≡ min (span.n - 16 * at) 16
    → now ≤ before + chunks_cost span at → next ≤ now + chunk_cost span (16 * at) k
    → next ≤ before + chunks_cost span (at + 1)
cost_more span at k before now next e so_far here =
    let spent : next ≤ now + chunk_cost span (16 * at) (min (span.n - 16 * at) 16) = subst
    (λ (i : ℕ). next ≤ now + chunk_cost span (16 * at) i) e here in
    let more : chunks_cost span (at + 1) ≡ chunks_cost span at + chunk_cost span (16 * at)
    (min (span.n - 16 * at) 16) = rw (add-one at) refl in
    rw more (joined before now next _ _ so_far spent)
  where
    joined : (before now next d e : ℕ) → now ≤ before + d → next ≤ now + e → next ≤ before + (d + e)
    joined before now next d e f g = omega arith

-- chunks without a texture
pub toned_cost : (span : Span) (first k : ℕ) → texture_of span.paint ≡ None → chunk_cost span first k ≡ 2 + 0 * k
unfolding has_hazard
toned_cost span first k e = rw e refl

-- chunks whose texel cells are known
pub textured_cost : (span : Span) (t : Texture) (first k : ℕ) (cells : List Cell) → texture_of span.paint ≡ Some t
    → paint_texels span.paint t span.x span.y first k ≡ cells
    → chunk_cost span first k ≡ steps_of (has_texture_hazard cells (clut_of t) (target span.x span.y first) k)
    (texel_steps t.page.depth) k
unfolding has_hazard
textured_cost span t first k cells e same = rw (e, same) refl

-- chunks for which it is known whether they have a hazard
pub free_cost : (span : Span) (t : Texture) (first k : ℕ) → texture_of span.paint ≡ Some t
    → has_hazard span first k ≡ false → chunk_cost span first k ≡ 2 + texel_steps t.page.depth * k
free_cost span t first k e free = rw (free, e) refl

pub hazard_cost : (span : Span) (t : Texture) (first k : ℕ) → texture_of span.paint ≡ Some t
    → has_hazard span first k ≡ true → chunk_cost span first k ≡ (texel_steps t.page.depth + 2) * k
hazard_cost span t first k e hazard = rw (hazard, e) refl

one_step : (hazard : Bool) (d k : ℕ) → 1 ≤ k → 1 ≤ steps_of hazard d k
one_step true d k some = grind arith
one_step false d k some = omega arith

-- a chunk costs at least one step
pub chunk_step : (span : Span) (first k : ℕ) → 1 ≤ k → 1 ≤ chunk_cost span first k
chunk_step span first k some = one_step (has_hazard span first k) (paint_steps span.paint) k some
