use Rattle.gp1_status.proofs.WordsBack.{words_again}
use Rattle.gp1_status.proofs.regs.Regs.from_words.Goals as goal

pub returns-clause-again : goal.returns-clause-again
returns-clause-again c =
    rw (c.bit.ensures, c.bit-2.ensures)
    (words_again c.height_of_profile-height.result c.args.words.now c.told-words
    (c.allows_all.ensures.yes c.if-not-allows_all.false))
