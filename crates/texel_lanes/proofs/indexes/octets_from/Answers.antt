use Rattle.std.proofs.Common.{◌≡◌, ◌<◌, ℕ, ◌+◌, ◌/◌, get_or, ◌∙◌, ap, arith}
use Rattle.texel_lanes.proofs.NibbleLemmas.{byte_of_two}
use Rattle.texel_lanes.proofs.indexes.octets_from.Goals as goal

pub returns-clause-value : goal.returns-clause-value
returns-clause-value c i lt =
    let a : ℕ = c.args.column + i in
    let across = c.bytes_from-across.ensures.value i lt in
    let cell : get_or c.bytes_down-cells.result i 0 ≡ a / 2 = c.bytes_down-cells.ensures.value i lt
    ∙ ap (λ (n : ℕ). n / 2) across in
    let few : a / 2 < 16 = omega arith in
    let table = c.table_of-table.ensures in
    let low : get_or c.bytes_at.result i 0 ≡ get_or c.table_of-table.result.low (a / 2) 0 =
    c.bytes_at.ensures.value i lt ∙ ap (λ (n : ℕ). get_or c.table_of-table.result.low n 0) cell in
    let high : get_or c.bytes_at-2.result i 0 ≡ get_or c.table_of-table.result.high (a / 2) 0 =
    c.bytes_at-2.ensures.value i lt ∙ ap (λ (n : ℕ). get_or c.table_of-table.result.high n 0) cell in
    c.widened.ensures.value i lt ∙ c.where_zero.ensures.value i lt
    ∙ rw (c.bytes_low.ensures.value i lt, across, low, high, ← table.value (a / 2) few)
    (byte_of_two _ _ a (table.table.low.low (a / 2) few) (table.table.high.low (a / 2) few))

pub returns-clause-low : goal.returns-clause-low
returns-clause-low c i lt = rw (returns-clause-value c i lt) (omega arith)
