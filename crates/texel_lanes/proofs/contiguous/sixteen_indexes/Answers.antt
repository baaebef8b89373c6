use Rattle.std.proofs.Common.{◌≡◌, ◌<◌, ℕ, ◌+◌, ◌*◌, ◌/◌, ◌%◌, get_or, ◌∙◌, ap, arith}
use Rattle.texture_page.specs.Page.{index_in}
use Rattle.texel_lanes.proofs.ContiguousLemmas.{same_part}
use Rattle.texel_lanes.proofs.contiguous.sixteen_indexes.Goals as goal

pub returns-clause-value : goal.returns-clause-value
returns-clause-value g c = λ j lane.
    let m = c.args.vram.now in
    let u : ℕ = c.args.u in
    let few : (u % 4 + j) / 4 < 16 = omega arith in
    let place : 1024 * c.args.y + (c.args.page + u / 4) + (u % 4 + j) / 4
    ≡ 1024 * c.args.y + (c.args.page + (u + j) / 4) = omega arith in
    let h : get_or c.load16-cells.result ((u % 4 + j) / 4) 0
    ≡ get_or m (1024 * c.args.y + (c.args.page + (u + j) / 4)) 0 =
    c.load16-cells.ensures.lanes.cells ((u % 4 + j) / 4) few ∙ ap (λ (n : ℕ). get_or m n 0) place in
    let column : (u % 4 + j) % 4 ≡ (u + j) % 4 = omega arith in
    c.nibbles_from.ensures.value j lane
    ∙ same_part (u % 4 + j) (u + j) (get_or c.load16-cells.result ((u % 4 + j) / 4) 0) column
    ∙ ap (λ (n : ℕ). index_in 0 (u + j) n) h
