use Rattle.gp0_words.proofs.Resume.{list_of-leaves}
use Rattle.gp0_words.proofs.splitter.Splitter.resume.Goals as goal

pub returns-then-may_be_pending-clause-list : goal.returns-then-may_be_pending-clause-list
returns-then-may_be_pending-clause-list c = list_of-leaves c.args.pending
    (c.may_be_pending.ensures.0 c.if-may_be_pending.true)
