use Rattle.std.proofs.Common.{◌+◌, arith}
use Rattle.vram_copy.proofs.WordLemmas.{store_two, store_one, two_on}
use Rattle.vram_copy.proofs.cursor.Cursor.store_word.Goals as goal

pub place_behind-self-inside-requires-clause-column : goal.place_behind-self-inside-requires-clause-column
place_behind-self-inside-requires-clause-column g c =
    let is = c.place_behind-second.ensures c.self.inside.job.at c.self.invariant in
    omega (arith, is.column)

pub place_behind-self-inside-requires-clause-more : goal.place_behind-self-inside-requires-clause-more
place_behind-self-inside-requires-clause-more g c =
    let is = c.place_behind-second.ensures c.self.inside.job.at c.self.invariant in
    rw (← is.number) (omega (arith, c.if-self.true))

pub invariant_of-self : goal.invariant_of-self
invariant_of-self g c = two_on c.self.inside.job.w c.self.inside.job.at _ _ _ c.self.invariant
    c.place_behind-second.ensures c.place_behind-self-inside.ensures

pub invariant_of-self-else-self : goal.invariant_of-self-else-self
invariant_of-self-else-self g c = c.place_behind-second.ensures c.self.inside.job.at c.self.invariant

pub returns-then-self-clause-word : goal.returns-then-self-clause-word
returns-then-self-clause-word g c =
    let second = c.place_behind-second.ensures c.self.inside.job.at c.self.invariant in
    rw (← c.self.view_is)
    (store_two c.height-height.result c.args.vram.now c.self.inside.job c.joined.result c.get-low.result
    c.get-high.result c.cell_at-from.result c.cell_at-from-then-self.result
    c.height-height.ensures.rows (c.cell_at-from.ensures.value c.self.inside.job.at c.self.invariant)
    (c.cell_at-from-then-self.ensures.value (c.self.inside.job.at + 1) second)
    c.get-low.ensures.value c.if-self.true c.get-high.ensures.value c.joined.ensures)

pub returns-else-self-clause-word : goal.returns-else-self-clause-word
returns-else-self-clause-word g c =
    rw (← c.self.view_is)
    (store_one c.height-height.result c.args.vram.now c.self.inside.job c.joined-else-self.result c.get-low.result
    c.cell_at-from.result
    c.height-height.ensures.rows (c.cell_at-from.ensures.value c.self.inside.job.at c.self.invariant)
    c.get-low.ensures.value (rw c.self.view_is c.requires.more) c.if-self.false c.joined-else-self.ensures)
