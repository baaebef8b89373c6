use Rattle.std.proofs.Common.{append-nil}
use Rattle.gpu_capture.specs.Written.{spelled}
use Rattle.gathered_out.proofs.Puts.{put_one}
use Rattle.capture_flat.proofs.spell.spell_one.Goals as goal

pub returns : goal.returns
returns g c = rw (append-nil (spelled c.args.event), ← c.record_bytes.ensures, ← c.as_slice.ensures.value)
    (put_one _ _ _ _ _ c.put.ensures.ok c.put.ensures.failed c.put.ensures.cause c.put.ensures.faults)
