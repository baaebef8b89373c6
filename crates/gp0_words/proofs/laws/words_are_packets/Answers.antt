use Rattle.gp0_words.proofs.Completed.{all_cut_up}
use Rattle.gp0_words.proofs.Forms.{packet_items-form}
use Rattle.gp0_words.proofs.laws.words_are_packets.Goals as goal

pub returns-clause-all : goal.returns-clause-all
returns-clause-all c = λ words. all_cut_up words

pub returns-clause-items : goal.returns-clause-items
returns-clause-items c = λ packet p. packet_items-form packet p
