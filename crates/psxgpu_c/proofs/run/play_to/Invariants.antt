use Rattle.psxgpu_c.proofs.run.play_to.Given as goal

abbrev pub ghosts-play_report : goal.ghosts-play_report
ghosts-play_report g a = record { name = a.blank.name; parts = a.blank.parts }
