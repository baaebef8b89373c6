use Rattle.std.proofs.Common.{◌≡◌, decimal, arith, ap, sym, ◌∙◌}
use Rattle.std.proofs.lemmas.Fmt.{parse-decimal}
use Rattle.command_line.proofs.spelled.count_of.Goals as goal

pub returns-else-is_count : goal.returns-else-is_count
returns-else-is_count c = λ n low high is.
    let most = c.ranges.most in
    let same = parse-decimal 32 n _ _ (omega (arith, high, most))
    (omega (arith, high, most)) is c.parse.ensures.value.0 in
    let equal : c.in-Ok.n ≡ n = cc (same, c.in-Ok.is) in
    let spelled = is ∙ ap decimal (sym equal) in
    let counts = c.is_count.ensures.1 (omega (arith, low, equal), omega (arith, high, equal), spelled) in
    absurd (grind (arith, counts, c.if-is_count.false))

pub returns-in-Err : goal.returns-in-Err
returns-in-Err c = λ n low high is.
    let most = c.ranges.most in
    let same = parse-decimal 32 n _ _ (omega (arith, high, most))
    (omega (arith, high, most)) is c.parse.ensures.value.0 in
    absurd (cc (same, c.in-Err.is))
