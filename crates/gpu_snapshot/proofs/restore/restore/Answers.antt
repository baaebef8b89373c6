use Rattle.std.proofs.Common.{◌≡◌, ◌∙◌, ap}
use Rattle.gpu_core.specs.Kept.{Kept}
use Rattle.event_play.specs.RigState.{RigState}
use Rattle.gpu_snapshot.specs.Restored.{version_after}
use Rattle.gpu_snapshot.proofs.Restoring.{stops_outline, stops_memories, restores, reader_of}
use Rattle.gpu_snapshot.proofs.restore.restore.Goals as goal

pub returns-in-Err-clause-fault : goal.returns-in-Err-clause-fault
returns-in-Err-clause-fault g c = stops_outline _ _ _ _ c.in-Err.ensures.fault

pub returns-in-Err-read_memories-clause-fault : goal.returns-in-Err-read_memories-clause-fault
returns-in-Err-read_memories-clause-fault g c =
    let height : c.put_outline.new.rig.gpu.parts.regs.height ≡ c.in-Ok.outline.regs.height =
    ap (λ (k : Kept). k.parts.regs.height) c.put_outline.ensures.gpu in
    stops_memories _ _ _ _ _ _ c.in-Ok.outline _ c.in-Ok.ensures.takes
    (rw height at c.in-Err-read_memories.ensures.fault)
    (rw height at c.read_memories.ensures.cost)

pub returns-in-Ok-read_memories-clause-restored : goal.returns-in-Ok-read_memories-clause-restored
returns-in-Ok-read_memories-clause-restored g c =
    let height : c.put_outline.new.rig.gpu.parts.regs.height ≡ c.in-Ok.outline.regs.height =
    ap (λ (k : Kept). k.parts.regs.height) c.put_outline.ensures.gpu in
    let kept : c.read_memories.new.rig.gpu.parts.regs.height ≡ c.in-Ok.outline.regs.height =
    ap (λ (r : RigState). r.gpu.parts.regs.height) c.read_memories.ensures.memories.others ∙ height in
    let version : c.version_after-version.result ≡ version_after c.in-Ok.outline.regs.height =
    c.version_after-version.ensures.value ∙ ap version_after c.height.ensures.value in
    restores _ _ _ _ _ _ c.read_memories.new.offset c.put_outline.new.rig c.read_memories.new.rig
    c.in-Ok.outline c.at.result c.in-Ok.ensures.takes c.put_outline.ensures
    c.in-Ok-read_memories.ensures.takes c.read_memories.ensures.memories.others
    (rw kept at c.read_memories.ensures.memories.sizes.rows) c.read_memories.ensures.memories.sizes.words
    (rw height at c.in-Ok-read_memories.ensures.offset)
    (reader_of c.at.result c.version_after-version.result c.in-Ok.outline.regs.height c.read_memories.new.offset
    c.at.ensures.offset c.at.ensures.stop version) (rw height at c.read_memories.ensures.cost)
