use Rattle.std.proofs.Common.{ℕ, ◌≡◌, ◌+◌, ◌∙◌, ap, sym, subst, arith, List}
use Rattle.px_num.specs.declared.shape.Cell.{Cell}
use Rattle.span_lanes.specs.declared.span.ClipRect.{ClipRect}
use Rattle.span_lanes.specs.Draws.{CanDraw}
use Rattle.span_lanes.specs.Pattern.{Pattern, run_span}
use Rattle.span_lanes.proofs.ChunkDrawLemmas.{draw_stays}
use Rattle.span_lanes.specs.Figures.Rows.{DrawsRun, PaintsAs, run_cells}
use Rattle.span_lanes.proofs.RowLemmas.{if_some, rows_next}
use Rattle.span_lanes.proofs.figures.rows.draw_rows.Goals as goal

pub draw_found-requires-clause-can : goal.draw_found-requires-clause-can
draw_found-requires-clause-can g c =
    let h = c.loop-j.invariant in
    let y : ℕ = c.clip_rect-clip_rect.result.y + c.loop-j.j in
    if_some c.run_at-run.result _ _
    (λ run gives. subst (λ (p : Pattern). CanDraw (run_span p y run) c.loop-j.vram) (sym h.pattern)
    (draw_stays (c.requires.can y run (h.gives y run gives)).0 h.long))
    c.run_at-run.ensures.gives

pub loop-j-preserved : goal.loop-j-preserved
loop-j-preserved g c =
    let h = c.loop-j.invariant in
    let j = c.loop-j.j in
    let found = c.run_at-run.result in
    let b = c.clip_rect-clip_rect.result in
    let top = (g.R.Rows.within c.args.rows.now).y in
    let here : b.y + j ≡ top + j = ap (λ (k : ClipRect). k.y + j) c.clip_rect-clip_rect.ensures in
    let next : b.y + j + 1 ≡ top + (j + 1) = omega (arith, here) in
    record {
      drawn = λ p paints. rows_next _ j found _ _ _
          (subst (λ y. run_cells found y ≡ g.R.Rows.cells c.args.rows.now y) here
          (c.run_at-run.ensures.found ∙ ap (λ (cells : ℕ → List Cell). cells (b.y + j)) h.cells))
          (h.drawn p paints)
          (subst (λ y. DrawsRun p y found
          (record { m = c.loop-j.vram; steps = c.loop-j.steps })
          (record { m = c.draw_found.new.vram; steps = c.draw_found.new.steps })) here
          (c.draw_found.ensures.drawn p
          (if_some found _ _
          (λ run gives. subst (λ (own : Pattern). PaintsAs p own (b.y + j) run) (sym h.pattern)
          (paints (b.y + j) run (h.gives (b.y + j) run gives)))
          c.run_at-run.ensures.gives)));
      long = c.draw_found.ensures.long ∙ h.long;
      stands = subst (g.R.Rows.stands c.run_at-run.new.self) next c.run_at-run.ensures.next;
      within = c.run_at-run.ensures.clip_rect ∙ h.within;
      cells = c.run_at-run.ensures.cells ∙ h.cells;
      gives = λ y run is. h.gives y run (c.run_at-run.ensures.same y run is);
      pattern = c.draw_found.ensures.pattern ∙ h.pattern;
      reaches = λ y run is. c.draw_found.ensures.reaches y run (h.reaches y run is);
      fresh = c.draw_found.ensures.fresh;
    }
