use Rattle.crate_tests.proofs.tests.prim_draw_test.a_rectangle_is_moved_by_the_offset.Given as goal

abbrev pub ghosts-drawn : goal.ghosts-drawn
ghosts-drawn g a = record { name = a.blank.name; parts = a.blank.parts }
