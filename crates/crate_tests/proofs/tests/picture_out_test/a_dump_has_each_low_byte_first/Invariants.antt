use Rattle.crate_tests.proofs.tests.picture_out_test.a_dump_has_each_low_byte_first.Given as goal

abbrev pub ghosts-dumped : goal.ghosts-dumped
ghosts-dumped g a = record { name = a.blank.name; parts = a.blank.parts }
