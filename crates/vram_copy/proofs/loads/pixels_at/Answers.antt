use Rattle.std.proofs.Common.{◌∙◌, ◌/◌, refl}
use Rattle.vram_copy.proofs.HalfLemmas.{half_is, pixel_behind}
use Rattle.vram_copy.proofs.loads.pixels_at.Goals as goal

pub returns-clause-value : goal.returns-clause-value
returns-clause-value c j lt =
    half_is c.args.words.now (c.args.first / 2) j 32 16 refl refl c.type_inv.words lt
    ∙ pixel_behind c.args.words.now c.args.first j c.requires.whole
