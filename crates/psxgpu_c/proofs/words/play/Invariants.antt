use Rattle.psxgpu_c.proofs.words.play.Given as goal

abbrev pub ghosts-play_one : goal.ghosts-play_one
ghosts-play_one a = record { name = a.blank.name; parts = a.blank.parts }
