use Rattle.crate_tests.proofs.tests.span_lanes_test.triangles_are_dithered.Given as goal

abbrev pub ghosts-dithered : goal.ghosts-dithered
ghosts-dithered g a = record { name = a.blank.name; parts = a.blank.parts }
