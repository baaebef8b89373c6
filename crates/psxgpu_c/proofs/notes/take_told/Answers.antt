use Rattle.std.proofs.Common.{arith}
use Rattle.psxgpu_c.proofs.DataWords.{noted_data}
use Rattle.psxgpu_c.proofs.NoteLemmas.{noted_none, noted_more, noted_all}
use Rattle.psxgpu_c.proofs.notes.take_told.Goals as goal

pub words-init : goal.words-init
words-init g c = record {
  within = omega arith;
  most = omega arith;
  told = λ s stands. noted_none s c.args.rig.now c.args.words.now c.args.notes.now stands;
}

pub words-preserved-then-data-gt0 : goal.words-preserved-then-data-gt0
words-preserved-then-data-gt0 g c = record {
  within = omega arith;
  most = omega arith;
  told = λ s stands. noted_data _ c.args.words.now c.words.at c.data_words-data.result _ c.words.rig _ _ _ _
      (omega arith) (omega arith) (omega arith) c.data_words-data.ensures.wanted c.data_words-data.ensures.bounds
      (c.words.invariant.told s stands) (λ m here. (c.take_words.ensures m here).stands);
}

pub words-preserved : goal.words-preserved
words-preserved g c = record {
  within = omega arith;
  most = omega arith;
  told = λ s stands. noted_more _ c.args.words.now c.words.at c.words.rig _ _ _ _ _ _ _ (omega arith)
      (c.words.invariant.told s stands) (λ m here. (c.take_word-note.ensures.tells m here).stands)
      c.take_word-note.ensures.note c.put_note-count.ensures.count c.put_note-count.ensures.front
      c.put_note-count.ensures.after;
}

pub returns : goal.returns
returns g c = λ s stands. noted_all _ c.args.words.now c.words.at c.words.rig _ _ _ (omega arith) (omega arith)
    (c.words.invariant.told s stands)
