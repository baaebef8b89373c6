use Rattle.std.proofs.Common.{◌≡◌, decimal, arith, ap, sym, ◌∙◌}
use Rattle.std.proofs.lemmas.Fmt.{parse-decimal}
use Rattle.command_line.proofs.spelled.coordinate_of.Goals as goal

pub returns-else-is_coordinate : goal.returns-else-is_coordinate
returns-else-is_coordinate c = λ n few is.
    let same = parse-decimal 32 n _ _ (omega (arith, few)) (omega (arith, few)) is c.parse.ensures.value.0 in
    let equal : c.in-Ok.n ≡ n = cc (same, c.in-Ok.is) in
    let spelled = is ∙ ap decimal (sym equal) in
    let counts = c.is_coordinate.ensures.1 (omega (arith, few, equal), spelled) in
    absurd (grind (arith, counts, c.if-is_coordinate.false))

pub returns-in-Err : goal.returns-in-Err
returns-in-Err c = λ n few is.
    let same = parse-decimal 32 n _ _ (omega (arith, few)) (omega (arith, few)) is c.parse.ensures.value.0 in
    absurd (cc (same, c.in-Err.is))
