use Rattle.crate_tests.proofs.tests.picture_out_test.pictures_of_15_and_of_24_bits.Given as goal

abbrev pub ghosts-shot : goal.ghosts-shot
ghosts-shot g a = record { name = a.blank.name; parts = a.blank.parts }
