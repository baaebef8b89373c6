use Rattle.std.proofs.Common.{◌≡◌, ◌<◌, ℕ, ◌+◌, ◌*◌, ◌/◌, ◌%◌, get_or, ◌∙◌, ap, arith}
use Rattle.texture_page.specs.Page.{index_in}
use Rattle.texel_lanes.proofs.ContiguousLemmas.{same_half}
use Rattle.texel_lanes.proofs.contiguous.sixteen_octets.Goals as goal

pub returns-clause-value : goal.returns-clause-value
returns-clause-value g c = λ j lane.
    let m = c.args.vram.now in
    let u : ℕ = c.args.u in
    let few : (u % 2 + j) / 2 < 16 = omega arith in
    let place : 1024 * c.args.y + (c.args.page + u / 2) + (u % 2 + j) / 2
    ≡ 1024 * c.args.y + (c.args.page + (u + j) / 2) = omega arith in
    let h : get_or c.load16-cells.result ((u % 2 + j) / 2) 0
    ≡ get_or m (1024 * c.args.y + (c.args.page + (u + j) / 2)) 0 =
    c.load16-cells.ensures.lanes.cells ((u % 2 + j) / 2) few ∙ ap (λ (n : ℕ). get_or m n 0) place in
    let column : (u % 2 + j) % 2 ≡ (u + j) % 2 = omega arith in
    c.octets_from.ensures.value j lane
    ∙ same_half (u % 2 + j) (u + j) _ column
    ∙ ap (λ (n : ℕ). index_in 1 (u + j) n) h
