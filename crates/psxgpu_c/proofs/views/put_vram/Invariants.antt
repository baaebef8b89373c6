use Rattle.psxgpu_c.proofs.views.put_vram.Given as goal

abbrev pub ghosts-put_dump : goal.ghosts-put_dump
ghosts-put_dump a = record { name = a.blank.name; parts = a.blank.parts }
