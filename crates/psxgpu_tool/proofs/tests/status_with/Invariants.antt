use Rattle.psxgpu_tool.proofs.tests.status_with.Given as goal

abbrev pub ghosts-run_owned : goal.ghosts-run_owned
ghosts-run_owned g a = record { name = a.blank.name; parts = a.blank.parts }
