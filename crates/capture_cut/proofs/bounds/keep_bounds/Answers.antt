use Rattle.std.proofs.Common.{◌<◌, ◌*◌, ◌^◌, ◌∙◌, None, refl, ap, subst, sym}
use Rattle.gp0_words.specs.Next.{IsPending}
use Rattle.gp0_words.specs.declared.pending.Pending.{Pending}
use Rattle.gp1_status.specs.Registers.{Registers, KeepsWidths}
use Rattle.gpu_capture.specs.Whole.{AreWords}
use Rattle.gpu_core.specs.Kept.{IsLinked, IsOpen, Kept}
use Rattle.snapshot_words.specs.Outline.{AreCells}
use Rattle.snapshot_words.specs.Values.{pending_words}
use Rattle.capture_cut.specs.File.{IsWritable}
use Rattle.capture_cut.proofs.Cutting.{of_parts}
use Rattle.capture_cut.proofs.Fitting.{rig_writable}
use Rattle.capture_cut.proofs.bounds.keep_bounds.Goals as goal

pub returns : goal.returns
returns c =
    let gpu : Kept = c.gpu-gpu.result.now in
    let IsBelow : Registers → Type 0 = λ r. r.held < 2 ^ 32 in
    let IsTied : Pending → Type 0 = λ p. IsLinked p gpu.parts.load in
    let Fits : Pending → Type 0 = λ p. AreWords (pending_words p None) in
    λ few. subst IsWritable
    (of_parts c.args.rig.now _ _ _ _ c.gpu-gpu.ensures c.ram-ram.ensures c.running.ensures.value refl)
    (rig_writable
    (record { gpu = gpu; ram = c.ram-ram.result.now; running = c.running.result; played = c.args.rig.now.played }) few
    (subst KeepsWidths c.regs.ensures c.keep_widths.ensures.widths)
    (subst IsBelow c.regs.ensures c.keep_widths.ensures.latch)
    (subst IsPending c.pending.ensures.value c.pending.ensures.bounds)
    (subst IsTied c.pending.ensures.value c.pending.ensures.link)
    (subst (IsOpen gpu.parts.regs.height) c.load_job.ensures.value c.load_job.ensures.bounds)
    (subst (IsOpen gpu.parts.regs.height) c.store_job.ensures.value c.store_job.ensures.bounds)
    c.running.ensures.bounds
    (subst Fits c.pending.ensures.value c.keep_pending.ensures)
    (c.height.ensures.rows ∙ ap (λ h. 1024 * h) c.height.ensures.value)
    (subst AreCells (ap (λ (k : Kept). k.parts.m) (sym c.gpu-gpu.ensures)) c.requires.cells)
    c.get.ensures.long c.words_fit.ensures)
