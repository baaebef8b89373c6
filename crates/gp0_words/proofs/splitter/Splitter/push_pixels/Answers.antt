use Rattle.gp0_words.proofs.Pushes.{pixels_pushed}
use Rattle.gp0_words.proofs.splitter.Splitter.push_pixels.Goals as goal

pub invariant_of-self : goal.invariant_of-self
invariant_of-self c =
    (pixels_pushed c.self.inside.pending _ _ c.args.word c.self.invariant c.wanted-left.ensures c.if-left-eq0.false
    c.pixels_after-self-inside.ensures).bounds.1

pub returns-clause-pixels : goal.returns-clause-pixels
returns-clause-pixels c = λ t. rw (← c.self.view_is)
    (pixels_pushed c.self.inside.pending _ _ c.args.word c.self.invariant c.wanted-left.ensures c.if-left-eq0.false
    c.pixels_after-self-inside.ensures)
