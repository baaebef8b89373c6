use Rattle.vram_copy.proofs.CutLemmas.{last_cut, chunks}
use Rattle.vram_copy.proofs.laws.rows_are_cut_in_chunks.Goals as goal

pub returns-clause-last_cut : goal.returns-clause-last_cut
returns-clause-last_cut c = last_cut

pub returns-clause-chunks : goal.returns-clause-chunks
returns-clause-chunks c = chunks
