use Rattle.gp0_words.proofs.Pushes.{register_pushed}
use Rattle.gp0_words.proofs.splitter.Splitter.passes.Goals as goal

pub returns-then-word-eq7-clause-packet : goal.returns-then-word-eq7-clause-packet
returns-then-word-eq7-clause-packet c = λ t. register_pushed c.args.self.now c.args.word
    (c.is_idle.ensures.0 t) c.if-word-eq7.true
