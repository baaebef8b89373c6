use Rattle.psxgpu_c.proofs.state.load.Given as goal

abbrev pub ghosts-open_over : goal.ghosts-open_over
ghosts-open_over a = record { name = a.blank.name; parts = a.blank.parts }
