use Rattle.crate_tests.proofs.tests.vram_copy_test.copies_repeat_what_they_wrote.Given as goal

abbrev pub ghosts-smeared : goal.ghosts-smeared
ghosts-smeared g a = record { name = a.blank.name; parts = a.blank.parts }
