use Rattle.gp0_words.proofs.next_word.after_word.Goals as goal

pub returns-in-Pixels-clause-pending : goal.returns-in-Pixels-clause-pending
returns-in-Pixels-clause-pending c = rw c.in-Pixels.is (c.pixels_after.ensures c.args.word)
