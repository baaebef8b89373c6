use Rattle.psxgpu_c.proofs.views.picture_in_memory.Given as goal

abbrev pub ghosts-write_picture : goal.ghosts-write_picture
ghosts-write_picture a = record { name = a.blank.name; parts = a.blank.parts }
