use Rattle.span_lanes.proofs.HazardFreeLemmas.{chunks_free}
use Rattle.span_lanes.proofs.hazard.is_run_hazard_free.Goals as goal

pub returns-then-is_run_apart : goal.returns-then-is_run_apart
returns-then-is_run_apart c off =
    chunks_free c.args.span.now c.args.texture.now c.requires.span c.requires.texture
    (c.is_run_apart.ensures c.if-is_run_apart.true) (c.is_off_clut.ensures off)
