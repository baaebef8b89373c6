use Rattle.crate_tests.proofs.tests.span_lanes_test.rows_are_flipped_and_seen_through_a_window.Given as goal

abbrev pub ghosts-sampled : goal.ghosts-sampled
ghosts-sampled g a = record { name = a.blank.name; parts = a.blank.parts }
