use Rattle.crate_tests.proofs.tests.vram_store_test.new_video_memory_is_zero.Given as goal

abbrev pub ghosts-first_corners : goal.ghosts-first_corners
ghosts-first_corners g a = record { name = a.blank.name; parts = a.blank.parts }
