use Rattle.gp0_words.proofs.Pushes.{pushed}
use Rattle.gp0_words.proofs.splitter.Splitter.push.Goals as goal

pub invariant_of-self : goal.invariant_of-self
invariant_of-self c =
    (pushed _ _ c.args.word c.take.result c.self.invariant c.take.ensures.pending c.take.ensures.item).bounds.1

pub returns-clause-item : goal.returns-clause-item
returns-clause-item c = rw (← c.self.view_is)
    ((pushed _ _ c.args.word c.take.result c.self.invariant c.take.ensures.pending c.take.ensures.item).item)

pub returns-clause-stands : goal.returns-clause-stands
returns-clause-stands c = rw (← c.self.view_is)
    ((pushed _ _ c.args.word c.take.result c.self.invariant c.take.ensures.pending c.take.ensures.item).stands)

pub returns-clause-bounds : goal.returns-clause-bounds
returns-clause-bounds c = rw (← c.self.view_is)
    ((pushed _ _ c.args.word c.take.result c.self.invariant c.take.ensures.pending c.take.ensures.item).bounds)
