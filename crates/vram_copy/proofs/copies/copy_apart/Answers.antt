use Rattle.std.proofs.Common.{◌≡◌, ◌+◌, ◌-◌, ◌*◌, ◌/◌, arith}
use Rattle.vram_copy.proofs.CopyLemmas.{free_of_both, piece_more}
use Rattle.vram_copy.proofs.CostLemmas.{free_spent}
use Rattle.vram_copy.proofs.copies.copy_apart.Goals as goal

pub copy_at_once-requires-clause-free : goal.copy_at_once-requires-clause-free
copy_at_once-requires-clause-free g c =
    free_of_both c.args.way.from c.args.way.to _ _ (c.args.n / 16 * 16) _
    (c.args.n - c.args.n / 16 * 16) c.beside.ensures.from c.beside.ensures.to
    c.requires.free (omega arith)

pub returns-then-done-n-clause-cells : goal.returns-then-done-n-clause-cells
returns-then-done-n-clause-cells g c =
    let all : 16 * (c.args.n / 16) ≡ c.args.n / 16 * 16 = omega arith in
    let sum : c.args.n ≡ c.args.n / 16 * 16 + (c.args.n - c.args.n / 16 * 16) = omega arith in
    rw sum
    (piece_more _ _ _ c.args.mask c.args.way.from c.args.way.to c.beside.result.from
    c.beside.result.to (c.args.n / 16 * 16) (c.args.n - c.args.n / 16 * 16)
    c.beside.ensures.from c.beside.ensures.to
    (rw all at c.copy_chunks.ensures.cells) c.copy_at_once.ensures.cells)

pub returns-then-done-n-clause-cost : goal.returns-then-done-n-clause-cost
returns-then-done-n-clause-cost g c =
    let all : 16 * (c.args.n / 16) ≡ c.args.n / 16 * 16 = omega arith in
    let sum : c.args.n ≡ c.args.n / 16 * 16 + (c.args.n - c.args.n / 16 * 16) = omega arith in
    let some = c.if-done-n.true in
    rw sum
    (free_spent c.args.way.from c.args.way.to c.beside.result.from c.beside.result.to
    (c.args.n / 16 * 16) (c.args.n - c.args.n / 16 * 16) _ _ _
    c.beside.ensures.from c.beside.ensures.to
    (free_of_both c.args.way.from c.args.way.to _ _ (c.args.n / 16 * 16) _
    (c.args.n - c.args.n / 16 * 16) c.beside.ensures.from c.beside.ensures.to
    c.requires.free (omega arith))
    (omega arith) (omega (arith, some)) (omega arith)
    (rw all at c.copy_chunks.ensures.cost) c.copy_at_once.ensures.cost)
