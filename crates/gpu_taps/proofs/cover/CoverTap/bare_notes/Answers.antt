use Rattle.std.proofs.Common.{◌+◌, [], ◌∷◌, sym}
use Rattle.gpu_taps.proofs.Counted.{uncovered}
use Rattle.gpu_taps.proofs.cover.CoverTap.bare_notes.Goals as goal

pub returns : goal.returns
returns c =
    let cover = c.args.self.now in
    sym (uncovered c.args._words.now (cover.notes ∷ cover.cells ∷ cover.most ∷ []) c.args._class (c.args._played + 1))
