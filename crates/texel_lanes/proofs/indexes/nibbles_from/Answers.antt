use Rattle.std.proofs.Common.{◌≡◌, ◌<◌, ℕ, ◌+◌, ◌/◌, ◌%◌, ◌^◌, get_or, ◌∙◌, ap, arith}
use Rattle.texel_lanes.proofs.NibbleLemmas.{half_byte}
use Rattle.texel_lanes.proofs.indexes.nibbles_from.Goals as goal

pub returns-clause-value : goal.returns-clause-value
returns-clause-value c i lt =
    let a : ℕ = c.args.column + i in
    let h = c.args.halfwords in
    let across = c.bytes_from-across.ensures.value i lt in
    let place : get_or c.bytes_down.result i 0 ≡ a / 2 = c.bytes_down.ensures.value i lt
    ∙ ap (λ (n : ℕ). n / 2) across in
    let few : a / 2 < 16 = omega arith in
    let quarter : a / 2 / 2 ≡ a / 4 = omega arith in
    let byte : get_or c.bytes_at-bytes.result i 0 ≡ get_or h (a / 4) 0 / 256 ^ (a / 2 % 2) % 256 =
    c.bytes_at-bytes.ensures.value i lt ∙ ap (λ (n : ℕ). get_or c.first_bytes.result n 0) place
    ∙ c.first_bytes.ensures.value (a / 2) few
    ∙ ap (λ (n : ℕ). get_or h n 0 / 256 ^ (a / 2 % 2) % 256) quarter in
    c.where_zero.ensures.value i lt
    ∙ rw
    (c.bytes_low.ensures.value i lt, c.bytes_low-2.ensures.value i lt, c.bytes_down-2.ensures.value i lt, across, byte)
    (half_byte a (get_or h (a / 4) 0))
