use Rattle.std.proofs.Common.{◌≡◌, ℕ, ◌+◌, pos, true, false, refl, arith}
use Rattle.texture_page.specs.Page.{windowed}
use Rattle.overlap_guard.specs.Hazard.{has_texel_hazard, has_strip_hazard}
use Rattle.edge_walk.specs.Extent.{bounding_box}
use Rattle.edge_walk.specs.Triangle.{edge, oriented, is_drawn, is_on_side, is_within}
use Rattle.span_lanes.specs.Cells.{row_cells}
use Rattle.span_lanes.specs.Cost.{span_cost}
use Rattle.span_lanes.specs.Hazard.Guard.{has_hazard, paint_texels}
use Rattle.span_lanes.specs.Shade.{row_u}
use Rattle.prim_draw.specs.Boxes.{some_box, overlap}
use Rattle.span_lanes.specs.Figures.Boxes.{clip_rect_of}
use Rattle.prim_draw.specs.Costs.{draw_cost, polygon_cost, rectangle_cost, triangle_cost}
use Rattle.span_lanes.specs.Figures.Rows.{side_by_side}
use Rattle.prim_draw.specs.Laws.{open_registers, raw_rectangle, white_half}
use Rattle.prim_draw.specs.Parts.{rectangle_style}
use Rattle.span_lanes.specs.Pattern.{Pattern, span_from}
use Rattle.prim_draw.specs.Rectangles.{extent_at, pattern_of, rectangle_box, rectangle_setup_in, rectangle_paint}
use Rattle.span_lanes.proofs.RowLemmas.{span_of_row}
use Rattle.gp1_status.specs.Drawing.{drawing_area}
use Rattle.prim_draw.specs.Settings.{brush_in, placed, texture_in}
use Rattle.prim_draw.specs.Triangles.{triangle_box, triangle_state, triangle_paint}
use Rattle.prim_draw.proofs.laws.some_costs.Goals as goal

-- the pattern of such a rectangle of one row
abbrev raw_pattern : (e1 x w : ℕ) → Pattern
raw_pattern e1 x w =
    let r = open_registers e1 in
    pattern_of (rectangle_setup_in r (rectangle_style 0 true false true 0) 0 0) (extent_at r (pos x) (pos 0) w 1)

pub returns-clause-smeared : goal.returns-clause-smeared
unfolding draw_cost rectangle_cost rectangle_box extent_at rectangle_setup_in rectangle_paint texture_in brush_in
    drawing_area some_box
    overlap clip_rect_of span_cost has_hazard paint_texels row_u windowed has_texel_hazard has_strip_hazard
returns-clause-smeared c =
    let p = raw_pattern 0x100 1 4 in
    let row : draw_cost (open_registers 0x100) (raw_rectangle 1 0 4 1) ≡ 0 + side_by_side p (row_cells 1 0 4) =
    refl in
    let span : span_cost (span_from p (record { x = 1; y = 0 }) 4) ≡ 12 = refl in
    omega (arith, row, span, span_of_row p 1 0 4 (omega arith))

pub returns-clause-own_clut : goal.returns-clause-own_clut
unfolding draw_cost rectangle_cost rectangle_box extent_at rectangle_setup_in rectangle_paint texture_in brush_in
    drawing_area some_box
    overlap clip_rect_of span_cost has_hazard paint_texels row_u windowed has_texel_hazard has_strip_hazard
returns-clause-own_clut c =
    let p = raw_pattern 1 0 3 in
    let row : draw_cost (open_registers 1) (raw_rectangle 0 0 3 1) ≡ 0 + side_by_side p (row_cells 0 0 3) =
    refl in
    let span : span_cost (span_from p (record { x = 0; y = 0 }) 3) ≡ 12 = refl in
    omega (arith, row, span, span_of_row p 0 0 3 (omega arith))

pub returns-clause-far : goal.returns-clause-far
unfolding draw_cost rectangle_cost rectangle_box extent_at rectangle_setup_in rectangle_paint texture_in brush_in
    drawing_area some_box
    overlap clip_rect_of span_cost has_hazard paint_texels row_u windowed has_texel_hazard has_strip_hazard
returns-clause-far c =
    let p = raw_pattern 0x110 0 32 in
    let row : draw_cost (open_registers 0x110) (raw_rectangle 0 0 32 1) ≡ 0 + side_by_side p (row_cells 0 0 32) =
    refl in
    let span : span_cost (span_from p (record { x = 0; y = 0 }) 32) ≡ 36 = refl in
    omega (arith, row, span, span_of_row p 0 0 32 (omega arith))

pub returns-clause-half : goal.returns-clause-half
unfolding draw_cost polygon_cost triangle_cost triangle_box triangle_state triangle_paint placed brush_in drawing_area
    some_box overlap clip_rect_of bounding_box is_drawn edge oriented is_on_side is_within row_cells span_cost
    has_hazard
returns-clause-half c =
    let e : draw_cost (open_registers 0) (white_half false false) ≡ 16 = refl in
    omega (arith, e)

pub returns-clause-square : goal.returns-clause-square
unfolding draw_cost polygon_cost triangle_cost triangle_box triangle_state triangle_paint placed brush_in drawing_area
    some_box overlap clip_rect_of bounding_box is_drawn edge oriented is_on_side is_within row_cells span_cost
    has_hazard
returns-clause-square c =
    let e : draw_cost (open_registers 0) (white_half true true) ≡ 30 = refl in
    omega (arith, e)
