use Rattle.std.proofs.Common.{arith, rules}
use Rattle.dev_io.proofs.Repeating.{called_after, gives_up}
use Rattle.dev_io.proofs.retry.write_again.Goals as goal

pub returns-in_default-clause-calls : goal.returns-in_default-clause-calls
returns-in_default-clause-calls g c =
    called_after _ _ _ _ c.loop-interruptions._interruptions _ c.loop-interruptions.invariant.calls
    c.in-Err.ensures.calls (search rules)

pub returns-in_default-2-clause-calls : goal.returns-in_default-2-clause-calls
returns-in_default-2-clause-calls g c =
    called_after _ _ _ _ c.loop-interruptions._interruptions _ c.loop-interruptions.invariant.calls
    c.attempt.ensures.calls (search rules)

pub returns-clause-calls : goal.returns-clause-calls
returns-clause-calls g c =
    gives_up _ _ _ c.loop-interruptions._interruptions _ c.loop-interruptions.invariant.calls
    (omega (arith, c.loop-interruptions-test.false, c.loop-interruptions.auto._interruptions-end))
    (search rules)
