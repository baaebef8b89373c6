use Rattle.std.proofs.Common.{◌≡◌, ◌-◌, ◌∙◌, refl, ap, sym, arith, length}
use Rattle.ot_clear_dma.specs.Table.{cleared_table}
use Rattle.ot_clear_dma.proofs.Tables.{table}
use Rattle.ot_clear_dma.proofs.ram.Ram.clear_table.Goals as goal

pub returns-clause-table : goal.returns-clause-table
unfolding cleared_table
returns-clause-table c =
    let last : c.loop-k.k ≡ c.args.n - 1 = omega arith in
    let is : c.put-2.new.self ≡ cleared_table c.args.self.now c.args.madr c.args.n =
    c.put-2.ensures.words ∙ rw (c.below-2.ensures, c.loop-k.invariant, last) refl in
    rw is (table c.args.self.now c.args.madr c.args.n c.requires.some c.requires.most
    (sym (ap length is) ∙ c.put-2.ensures.long))
