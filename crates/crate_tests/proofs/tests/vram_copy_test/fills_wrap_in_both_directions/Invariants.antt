use Rattle.crate_tests.proofs.tests.vram_copy_test.fills_wrap_in_both_directions.Given as goal

abbrev pub ghosts-filled : goal.ghosts-filled
ghosts-filled g a = record { name = a.blank.name; parts = a.blank.parts }
