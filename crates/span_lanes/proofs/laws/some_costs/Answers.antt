use Rattle.std.proofs.Common.{◌≡◌, refl, arith}
use Rattle.texture_page.specs.Page.{windowed}
use Rattle.overlap_guard.specs.Hazard.{has_texel_hazard, has_strip_hazard}
use Rattle.span_lanes.specs.Shade.{row_u}
use Rattle.span_lanes.specs.Hazard.Guard.{paint_texels, has_hazard}
use Rattle.span_lanes.specs.Cost.{span_cost}
use Rattle.span_lanes.specs.Laws.{raw_row}
use Rattle.span_lanes.proofs.laws.some_costs.Goals as goal

pub returns-clause-smeared : goal.returns-clause-smeared
unfolding span_cost has_hazard paint_texels row_u windowed has_texel_hazard has_strip_hazard
returns-clause-smeared c =
    let e : span_cost (raw_row (record { x = 0; y = 0; depth = 2 }) 1 0 4) ≡ 12 = refl in
    omega (arith, e)

pub returns-clause-own_clut : goal.returns-clause-own_clut
unfolding span_cost has_hazard paint_texels row_u windowed has_texel_hazard has_strip_hazard
returns-clause-own_clut c =
    let e : span_cost (raw_row (record { x = 64; y = 0; depth = 0 }) 0 0 3) ≡ 12 = refl in
    omega (arith, e)

pub returns-clause-far : goal.returns-clause-far
unfolding span_cost has_hazard paint_texels row_u windowed has_texel_hazard has_strip_hazard
returns-clause-far c =
    let e : span_cost (raw_row (record { x = 0; y = 256; depth = 2 }) 0 0 32) ≡ 36 = refl in
    omega (arith, e)
