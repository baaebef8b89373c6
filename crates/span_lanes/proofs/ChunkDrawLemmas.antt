-- Spans that are drawn chunk by chunk, each chunk in some steps fewer than its cost.
use Rattle.std.proofs.Common.{◌≡◌, ◌<◌, ◌≤◌, ℕ, zero, suc, List, ◌+◌, ◌-◌, ◌*◌, ◌/◌}
use Rattle.std.proofs.Common.{min, length, sym, subst, refl, add-one, arith, ◌∙◌}
use Rattle.span_lanes.specs.declared.span.Chunk.{Chunk}
use Rattle.span_lanes.specs.declared.span.Span.{Span}
use Rattle.texel_lanes.specs.declared.texture.Texture.{Texture}
use Rattle.span_lanes.specs.Draws.{CanDraw, CanSample, DrawsChunk, DrawsSpan, at_stage}
use Rattle.span_lanes.specs.Cells.{Stage}
use Rattle.span_lanes.specs.SpanDrawer.{DrawsCells}
use Rattle.span_lanes.specs.Shade.{LiesIn}
use Rattle.span_lanes.proofs.CellsLemmas.{span_law}
use Rattle.span_lanes.proofs.ChunkLemmas.{AreDrawn, drawn_begun, drawn_next, all_cells, all_cost}

-- the number of steps that the first c chunks spare at least, if the first of them spares `spared`
abbrev pub saved : (spared c : ℕ) → ℕ
saved spared zero = 0
saved spared (suc c) = spared

spares_more : (spared here c after steps cost : ℕ) → (c ≡ 0 → here ≡ spared) → after + here ≤ steps + cost
    → after + saved spared (c + 1) ≤ steps + saved spared c + cost
spares_more spared here zero after steps cost first le = omega (arith, le, first refl)
spares_more spared here (suc c) after steps cost first le = rw (add-one (suc c)) (omega (arith, le))

pub parts_begun : (s : Span) (spared steps : ℕ) (m : List ℕ) → AreDrawn s 0 steps (steps + saved spared 0) m m
parts_begun s spared steps m = drawn_begun s steps (steps + saved spared 0) m (omega arith)

pub parts_next : (c spared here before steps after : ℕ) (m now next : List ℕ) (p : Chunk)
    → AreDrawn p.span.now c before (steps + saved spared c) m now
    → p.first ≡ 16 * c → p.k ≡ min (p.span.now.n - 16 * c) 16 → 16 * c < p.span.now.n → (c ≡ 0 → here ≡ spared)
    → DrawsChunk p here (at_stage now steps) (at_stage next after)
    → AreDrawn p.span.now (c + 1) before (after + saved spared (c + 1)) m next
parts_next c spared here before steps after m now next p so_far at few room first draws =
    drawn_next p.span.now c before (steps + saved spared c) (after + saved spared (c + 1)) m now next p.first p.k so_far
    at few room draws.cells draws.long (spares_more spared here c after steps _ first draws.cost)

pub parts_all : (s : Span) (c spared before steps : ℕ) (m now : List ℕ)
    → AreDrawn s c before (steps + saved spared c) m now → c ≡ (s.n + 15) / 16 → 1 ≤ s.n
    → DrawsSpan s spared (at_stage m before) (at_stage now steps)
parts_all s c spared before steps m now drawn all some = record {
  cells = all_cells s c _ _ m now drawn all;
  long = drawn.long;
  cost = spent c (all_cost s c before (steps + saved spared c) m now drawn all) (omega (arith, all, some));
}
  where
    spent : (c : ℕ) {e : ℕ} → steps + saved spared c ≤ e → 1 ≤ c → steps + spared ≤ e
    spent zero le some = absurd (omega (arith, some))
    spent (suc c) le some = omega (arith, le)

pub draw_stays : {s : Span} {m now : List ℕ} → CanDraw s m → length now ≡ length m → CanDraw s now
draw_stays {s} can long = record {
  span = can.span;
  lies = subst (λ (count : ℕ). LiesIn (count / 1024) s) (sym long) can.lies;
}

pub sample_stays : {s : Span} {t : Texture} {m now : List ℕ} → CanSample s t m → length now ≡ length m
    → CanSample s t now
sample_stays is long = record { can = draw_stays is.can long; texture = is.texture }

pub none_spared : {steps most : ℕ} → steps + 0 ≤ most → steps ≤ most
none_spared le = omega (arith, le)

-- drawing a span by cell numbers draws the cells of its row
pub draws_cells : (s : Span) (before after : Stage) → DrawsSpan s 0 before after → DrawsCells s before after
draws_cells s before after drawn = record {
  cells = drawn.cells ∙ span_law s s.n before.m;
  long = drawn.long;
  cost = none_spared drawn.cost;
}
