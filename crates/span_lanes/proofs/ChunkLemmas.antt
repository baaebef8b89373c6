-- Spans that are drawn chunk by chunk.
use Rattle.std.proofs.Common.{◌≡◌, ◌<◌, ◌≤◌, ℕ, List, ◌+◌, ◌-◌, ◌*◌, ◌/◌, min, length, refl, sym, ap, ◌∙◌, subst, arith}
use Rattle.vram_store.specs.Plot.{later, drawn_lanes}
use Rattle.vram_store.proofs.Drawn.{drawn_later, drawn_none}
use Rattle.span_lanes.specs.declared.span.Span.{Span}
use Rattle.span_lanes.specs.Shade.{shade, drawn_span}
use Rattle.span_lanes.specs.Cost.{chunk_cost, chunks_cost, span_cost}
use Rattle.span_lanes.proofs.CostLemmas.{cost_more}

-- the first c chunks of a span are drawn
pub record AreDrawn (span : Span) (c before steps : ℕ) (m now : List ℕ) : Type 0 where
  pub cells : now ≡ drawn_span span (min (16 * c) span.n) m
  pub cost : steps ≤ before + chunks_cost span c
  pub long : length now ≡ length m

pub drawn_start : (span : Span) (before : ℕ) (m : List ℕ) → AreDrawn span 0 before before m m
drawn_start span before m = record {
  cells = let none : min 0 span.n ≡ 0 = omega arith in rw none (sym (drawn_none _ _ _ _));
  cost = omega arith;
  long = refl;
}

-- no chunk is drawn yet; `steps` steps were taken before
pub drawn_begun : (span : Span) (before steps : ℕ) (m : List ℕ) → steps ≤ before → AreDrawn span 0 before steps m m
drawn_begun span before steps m le = record {
  cells = (drawn_start span before m).cells;
  cost = omega (arith, le);
  long = refl;
}

-- one more chunk
pub drawn_next : (span : Span) (c before steps after : ℕ) (m now next : List ℕ) (first k : ℕ)
    → AreDrawn span c before steps m now
    → first ≡ 16 * c → k ≡ min (span.n - 16 * c) 16 → 16 * c < span.n
    → next ≡ drawn_lanes (later (shade span) first) span.brush.mask (1024 * span.y + (span.x + first)) k now
    → length next ≡ length now → after ≤ steps + chunk_cost span first k
    → AreDrawn span (c + 1) before after m next
drawn_next span c before steps after m now next first k so_far at_first few room cells long cost = record {
  cells =
      (rw at_first at cells)
      ∙ ap (drawn_lanes (later (shade span) (16 * c)) span.brush.mask (1024 * span.y + (span.x + 16 * c)) k)
      (so_far.cells ∙ ap (λ (i : ℕ). drawn_span span i m) reached)
      ∙ drawn_later (shade span) span.brush.mask (1024 * span.y + span.x) (16 * c)
      (1024 * span.y + (span.x + 16 * c)) k m (omega arith)
      ∙ ap (λ (i : ℕ). drawn_span span i m) further;
  cost = cost_more span c k before steps after few so_far.cost
      (subst (λ (i : ℕ). after ≤ steps + chunk_cost span i k) at_first cost);
  long = long ∙ so_far.long;
}
  where
    reached : min (16 * c) span.n ≡ 16 * c
    reached = omega arith

    further : 16 * c + k ≡ min (16 * (c + 1)) span.n
    further = omega (arith, few)

-- all chunks
module _ (span : Span) (c before steps : ℕ) (m now : List ℕ) (drawn : AreDrawn span c before steps m now)
    (all : c ≡ (span.n + 15) / 16) where
  pub all_cells : now ≡ drawn_span span span.n m
  all_cells = let whole : min (16 * c) span.n ≡ span.n = omega (arith, all) in drawn.cells
      ∙ ap (λ (i : ℕ). drawn_span span i m) whole

  pub all_cost : steps ≤ before + span_cost span
  unfolding span_cost
  all_cost = subst (λ (i : ℕ). steps ≤ before + chunks_cost span i) all drawn.cost
