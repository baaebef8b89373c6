use Rattle.std.proofs.Common.{◌∙◌, ap}
use Rattle.gpu_core.specs.Kept.{Kept}
use Rattle.capture_cut.proofs.Spelling.{rig_length}
use Rattle.capture_cut.proofs.state.state_size.Goals as goal

pub returns-clause-value : goal.returns-clause-value
returns-clause-value c =
    rig_length c.args.rig.now c.outline_of.result c.vram.result.now c.ram.result.now _ _ _ c.outline_of.ensures.value
    (c.vram.ensures ∙ ap (λ (k : Kept). k.parts.m) c.gpu.ensures) c.ram.ensures c.front_size.ensures.value
    c.cells_size.ensures.value c.ram_size.ensures.value
