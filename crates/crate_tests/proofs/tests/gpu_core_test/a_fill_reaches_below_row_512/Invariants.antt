use Rattle.crate_tests.proofs.tests.gpu_core_test.a_fill_reaches_below_row_512.Given as goal

abbrev pub ghosts-around_a_fill : goal.ghosts-around_a_fill
ghosts-around_a_fill g a = record { name = a.blank.name; parts = a.blank.parts }
