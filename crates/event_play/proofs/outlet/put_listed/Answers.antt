use Rattle.std.proofs.Common.{◌≡◌, ◌==◌, false, arith}
use Rattle.std.proofs.lemmas.Bool.Decides.{nat_tests}
use Rattle.event_play.proofs.outlet.put_listed.Goals as goal

pub returns-in-Some-clause-puts : goal.returns-in-Some-clause-puts
returns-in-Some-clause-puts g c =
    let other : (c.in-Some.told.class == 9) ≡ false = grind (arith, nat_tests, c.if-told-ne9.true) in
    rw (c.in-Some.is, other, ← c.note_text.ensures, ← c.as_slice.ensures.value) c.put.ensures.puts
