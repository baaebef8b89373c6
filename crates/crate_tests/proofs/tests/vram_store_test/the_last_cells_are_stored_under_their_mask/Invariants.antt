use Rattle.crate_tests.proofs.tests.vram_store_test.the_last_cells_are_stored_under_their_mask.Given as goal

abbrev pub ghosts-corner : goal.ghosts-corner
ghosts-corner g a = record { name = a.blank.name; parts = a.blank.parts }
