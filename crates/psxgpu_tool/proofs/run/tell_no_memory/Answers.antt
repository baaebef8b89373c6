use Rattle.psxgpu_tool.proofs.run.tell_no_memory.Goals as goal

pub returns-clause-says : goal.returns-clause-says
returns-clause-says g c = c.tell.ensures
