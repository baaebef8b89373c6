use Rattle.event_play.proofs.Outlets.{one_line, puts_as}
use Rattle.event_play.proofs.outlet.put_change.Goals as goal

pub returns-clause-puts : goal.returns-clause-puts
returns-clause-puts g c =
    rw (← c.change_text.ensures, ← c.as_slice.ensures.value)
    (puts_as c.args.number c.as_slice.result.now _ _ _ c.put.result (one_line c.args.number c.as_slice.result.now)
    c.put.ensures.puts)
