use Rattle.crate_tests.proofs.tests.vram_copy_test.loads_and_stores_go_by_words_of_two_pixels.Given as goal

abbrev pub ghosts-moved : goal.ghosts-moved
ghosts-moved g a = record { name = a.blank.name; parts = a.blank.parts }
