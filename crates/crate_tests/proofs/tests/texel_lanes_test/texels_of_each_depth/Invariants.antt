use Rattle.crate_tests.proofs.tests.texel_lanes_test.texels_of_each_depth.Given as goal

abbrev pub ghosts-first_texels : goal.ghosts-first_texels
ghosts-first_texels g a = record { name = a.blank.name; parts = a.blank.parts }
