use Rattle.snapshot_words.proofs.Shapes.{registers_are}
use Rattle.snapshot_words.proofs.parts.read_registers.Goals as goal

pub registers_in-requires-clause-words : goal.registers_in-requires-clause-words
registers_in-requires-clause-words g c = rw c.as_slice.ensures.value (registers_are _ _ c.in-Ok.ensures.whole)

pub returns-in-Ok-clause-takes : goal.returns-in-Ok-clause-takes
returns-in-Ok-clause-takes g c = rw (c.registers_in.ensures.spelled, c.as_slice.ensures.value) c.in-Ok.ensures.takes

pub returns-in-Ok-clause-bits : goal.returns-in-Ok-clause-bits
returns-in-Ok-clause-bits g c =
    let is = registers_are _ _ c.in-Ok.ensures.whole in
    rw (c.registers_in.ensures.spelled, c.as_slice.ensures.value) is.bits
