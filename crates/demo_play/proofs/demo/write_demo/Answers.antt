use Rattle.std.proofs.Common.{◌≡◌, refl, ap, sym, ◌∙◌}
use Rattle.std.proofs.lemmas.Result.{err_from_is_err_and}
use Rattle.dev_io.proofs.Writing.{underway_start, underway_on, underway_fails, underway_last}
use Rattle.std.specs.List.{sum}
use Rattle.gpu_core.specs.Kept.{Kept}
use Rattle.gpu_core.specs.Machine.{Parts}
use Rattle.demo_play.proofs.demo.write_demo.Goals as goal

pub returns-in_err-write_status-clause-writes : goal.returns-in_err-write_status-clause-writes
returns-in_err-write_status-clause-writes g c = λ s is.
    let residual = c.from_residual-in_err-write_status in
    let p = err_from_is_err_and residual.result residual.ensures.1 in
    let report = underway_on _ _ _ _ _ _ _ _ _ (underway_start _ _ _) refl c.in_ok-write_report.ensures in
    let status = c.status.ensures s (is ∙ sym c.gpu-gpu.ensures) in
    rw (p.1, p.2, ← status) (underway_fails _ _ _ _ _ _ _ _ _ report refl c.in_err-write_status.ensures)

pub returns-clause-writes : goal.returns-clause-writes
returns-clause-writes g c = λ s is.
    let same : c.gpu-gpu.result.now.parts ≡ s.parts = ap (λ (k : Kept). k.parts) (c.gpu-gpu.ensures ∙ sym is) in
    let status = c.status.ensures s (is ∙ sym c.gpu-gpu.ensures) in
    let report = underway_on _ _ _ _ _ _ _ _ _ (underway_start _ _ _) refl c.in_ok-write_report.ensures in
    let line = underway_on _ _ _ _ _ _ _ _ _ report refl c.in_ok-write_status.ensures in
    let sums : c.sum_of_cells.result ≡ sum s.parts.m = c.sum_of_cells.ensures.value
    ∙ ap (λ (p : Parts). sum p.m) same in
    rw (← status, ← sums) (underway_last _ _ _ _ _ _ _ line c.write_sum.ensures)
