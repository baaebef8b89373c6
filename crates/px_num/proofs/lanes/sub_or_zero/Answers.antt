use Rattle.std.proofs.Common.{◌∙◌, ap, List, ℕ, ◌+◌, ◌-◌, ◌%◌, ◌^◌, get_or, ltb, w16}
use lib.Lanes.{sel_l}
use Rattle.px_num.proofs.LaneOps.{compared, long_zip, at_zip, long_where, at_where, sub_saturated, below_word}
use Rattle.px_num.proofs.lanes.sub_or_zero.Goals as goal

abbrev wrap : ℕ → ℕ → ℕ
wrap m n = (m + (2 ^ 16 - n)) % 2 ^ 16

abbrev larger : List ℕ → List ℕ → List ℕ
larger a b = sel_l (compared w16 ltb a b) b a

pub returns-clause-long : goal.returns-clause-long
returns-clause-long c =
    let a = c.args.a in
    let b = c.args.b in
    long_zip (larger a b) b (long_where a b c.requires.0 c.requires.1 ltb b a c.requires.1 c.requires.0 w16)
    c.requires.1 wrap

pub returns-clause-value : goal.returns-clause-value
returns-clause-value c i lt =
    let a = c.args.a in
    let b = c.args.b in
    at_zip (larger a b) b (long_where a b c.requires.0 c.requires.1 ltb b a c.requires.1 c.requires.0 w16)
    c.requires.1 wrap i lt
    ∙ ap (λ m. wrap m (get_or b i 0))
    (at_where a b c.requires.0 c.requires.1 ltb b a c.requires.1 c.requires.0 w16 i lt)
    ∙ sub_saturated (get_or a i 0) (get_or b i 0) (below_word a i c.requires.0 lt c.fits-a.1)
    (below_word b i c.requires.1 lt c.fits-b.1)
