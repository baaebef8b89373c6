use Rattle.std.proofs.Common.{◌∙◌, ap, get_or, cond, eqb, replicate, refl, w8}
use Rattle.std.proofs.lemmas.Simd.{get_or-replicate}
use Rattle.px_num.proofs.LaneOps.{long_where, at_where}
use Rattle.px_num.proofs.bytes.where_zero.Goals as goal

pub returns-clause-long : goal.returns-clause-long
returns-clause-long c =
    long_where c.args.a (replicate 16 0) c.requires.tested refl eqb c.args.first c.args.others c.requires.chosen.0
    c.requires.chosen.1 w8

pub returns-clause-value : goal.returns-clause-value
returns-clause-value c i lt =
    at_where c.args.a (replicate 16 0) c.requires.tested refl eqb c.args.first c.args.others c.requires.chosen.0
    c.requires.chosen.1 w8 i lt
    ∙ ap (λ z. cond (eqb (get_or c.args.a i 0) z) (get_or c.args.first i 0) (get_or c.args.others i 0))
    (get_or-replicate 16 i 0 0 lt)
