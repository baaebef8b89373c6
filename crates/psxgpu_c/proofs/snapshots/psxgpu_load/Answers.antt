use Rattle.psxgpu_c.proofs.snapshots.psxgpu_load.Goals as goal

pub returns-clause-told : goal.returns-clause-told
returns-clause-told c = record { why = c.load_held.result; loads = c.load_held.ensures; is_told = c.told_by.ensures }
