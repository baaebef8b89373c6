use Rattle.psxgpu_c.proofs.views.cell_of.Given as goal

abbrev pub ghosts-get : goal.ghosts-get
ghosts-get a = record { name = a.blank.name; parts = a.blank.parts }
