use Rattle.psxgpu_c.proofs.words.take_word.Given as goal

abbrev pub ghosts-take_one : goal.ghosts-take_one
ghosts-take_one a = record { name = a.blank.name; parts = a.blank.parts }
