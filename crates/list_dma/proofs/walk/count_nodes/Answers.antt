use Rattle.std.proofs.Common.{true, false, sym, ◌∙◌, ◌≡◌}
use Rattle.ot_clear_dma.specs.Ram.{place_of}
use Rattle.list_dma.specs.Marks.{is_marked}
use Rattle.list_dma.proofs.Steps.{ended, ended_long, met, stepped}
use Rattle.list_dma.proofs.walk.count_nodes.Goals as goal

pub returns-then-ends : goal.returns-then-ends
returns-then-ends c =
    let end = sym c.ends.ensures ∙ c.if-ends.true in
    let none = ended _ _ _ _ _ _ _ c.loop-count.invariant c.loop-count-test.true end in
    let long = ended_long _ _ _ _ _ _ _ c.loop-count.invariant c.loop-count-test.true end in
    (none, long)

pub returns-then-contains : goal.returns-then-contains
returns-then-contains c =
    let on = sym c.ends.ensures ∙ c.if-ends.false in
    let mark : is_marked c.loop-count.marks (place_of c.loop-count.address) ≡ true = rw c.cut-node.ensures.place at
    (sym c.contains.ensures ∙ c.if-contains.true) in
    let loops = met _ _ _ _ _ _ _ c.loop-count.invariant c.loop-count-test.true on mark in
    rw c.cut-node.ensures.value loops

pub loop-count-preserved : goal.loop-count-preserved
loop-count-preserved c =
    let on = sym c.ends.ensures ∙ c.if-ends.false in
    let mark : is_marked c.loop-count.marks (place_of c.loop-count.address) ≡ false = rw c.cut-node.ensures.place at
    (sym c.contains.ensures ∙ c.if-contains.false) in
    let here = rw c.cut-node.ensures.place at c.insert.ensures.marked in
    let others = rw c.cut-node.ensures.place at c.insert.ensures.others in
    rw (c.next_address-address.ensures, c.cut-node.ensures.value)
    (stepped _ _ _ _ _ _ _ _ c.loop-count.invariant c.loop-count-test.true on mark here others)
