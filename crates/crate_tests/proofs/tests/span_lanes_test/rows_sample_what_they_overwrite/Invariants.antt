use Rattle.crate_tests.proofs.tests.span_lanes_test.rows_sample_what_they_overwrite.Given as goal

abbrev pub ghosts-sampled : goal.ghosts-sampled
ghosts-sampled g a = record { name = a.blank.name; parts = a.blank.parts }
