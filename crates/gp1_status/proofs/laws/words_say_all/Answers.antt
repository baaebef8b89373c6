use Rattle.gp1_status.proofs.WordsBack.{registers-again, words-allowed}
use Rattle.gp1_status.proofs.laws.words_say_all.Goals as goal

pub returns : goal.returns
returns c = λ r keeps latch. (registers-again r, words-allowed r keeps latch)
