use Rattle.std.proofs.Common.{◌≡◌, [], ◌∙◌, ap, subst}
use Rattle.std.proofs.lemmas.Result.{err_from_is_err_and, on_ok_weaker}
use Rattle.dev_io.proofs.Writing.{wrote_none, fails_on, writes_on}
use Rattle.gpu_core.specs.Kept.{Kept}
use Rattle.snapshot_words.specs.Outline.{AreCells}
use Rattle.capture_cut.proofs.state.write_memories.Goals as goal

pub returns-in_err-write_cells-clause-writes : goal.returns-in_err-write_cells-clause-writes
returns-in_err-write_cells-clause-writes g c =
    let p = err_from_is_err_and c.from_residual.result c.from_residual.ensures.1 in
    let cells : c.vram.result.now ≡ c.args.rig.now.gpu.parts.m =
    c.vram.ensures ∙ ap (λ (k : Kept). k.parts.m) c.gpu.ensures in
    rw (p.1, p.2, ← cells)
    (fails_on _ _ _ _ [] _ _ _ (wrote_none _ _) c.in_err-write_cells.ensures.writes)

pub returns-clause-writes : goal.returns-clause-writes
returns-clause-writes g c =
    let first = c.in_ok-write_cells.ensures.writes in
    let cells : c.vram.result.now ≡ c.args.rig.now.gpu.parts.m =
    c.vram.ensures ∙ ap (λ (k : Kept). k.parts.m) c.gpu.ensures in
    rw (← cells, ← c.ram.ensures)
    (writes_on _ _ _ _ _ _ _ (record { bytes = first.ok; faults = first.faults }) c.write_ram.ensures)

pub returns-clause-cells : goal.returns-clause-cells
returns-clause-cells g c =
    let cells : c.vram.result.now ≡ c.args.rig.now.gpu.parts.m =
    c.vram.ensures ∙ ap (λ (k : Kept). k.parts.m) c.gpu.ensures in
    on_ok_weaker c.write_ram.result (λ written. subst AreCells cells c.in_ok-write_cells.ensures.cells)
    c.write_ram.ensures.ok
