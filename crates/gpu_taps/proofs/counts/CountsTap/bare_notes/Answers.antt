use Rattle.std.proofs.Common.{◌+◌, ◌<◌, ◌^◌, slice_index, sym, arith, rules}
use Rattle.gpu_taps.proofs.Counted.{counted, uncounted}
use Rattle.gpu_taps.proofs.counts.CountsTap.bare_notes.Goals as goal

pub returns-then-class-lt10 : goal.returns-then-class-lt10
returns-then-class-lt10 c =
    let counts = c.args.self.now.counts in
    let class = c.from-class.ensures in
    let fits : slice_index counts c.args.class < 2 ^ 64 = rw class at c.grown.ensures.before in
    rw (c.grown.ensures.value, class)
    (sym (counted c.args.words.now counts c.args.class (c.args._played + 1) (search rules)
    (rw class at c.if-class-lt10.true) fits))

pub returns-else-class-lt10 : goal.returns-else-class-lt10
returns-else-class-lt10 c = sym
    (uncounted c.args.words.now c.args.self.now.counts c.args.class (c.args._played + 1)
    (omega (arith, c.from-class.ensures)))
