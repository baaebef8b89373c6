use Rattle.psxgpu_c.proofs.notes.take_noted.Given as goal

abbrev pub ghosts-take_told : goal.ghosts-take_told
ghosts-take_told a = record { name = a.blank.name; parts = a.blank.parts }
