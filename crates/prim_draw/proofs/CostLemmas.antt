-- Drawing costs at most four steps per cell of its boxes.
use Rattle.std.proofs.Common.{◌≡◌, ◌≤◌, ℕ, zero, suc, ◌+◌, ◌*◌, List, [], ◌∷◌, length, Option, None, Some, Bool, true}
use Rattle.std.proofs.Common.{false, cond, arith}
use Rattle.std.specs.List.{filter}
use Rattle.std.proofs.lemmas.List.FromFn.{length-map-range_with_len}
use Rattle.std.proofs.Math.Nat.{mul-suc}
use Rattle.px_num.specs.declared.shape.Box2.{Box2}
use Rattle.px_num.specs.declared.shape.Cell.{Cell}
use Rattle.gp0_packets.specs.declared.packet.Packet.TheVariants as packet
use Rattle.gp1_status.specs.Registers.{Registers}
use Rattle.edge_walk.specs.Triangle.{Corners}
use Rattle.line_walk.specs.Line.{Ends, is_near}
use Rattle.span_lanes.specs.Cells.{cell_in_row, row_cells}
use Rattle.span_lanes.proofs.CostLemmas.{cost_law as span_small}
use Rattle.span_lanes.specs.Figures.Boxes.{clip_rect_of, clip_row}
use Rattle.prim_draw.specs.Boxes.{count_in}
use Rattle.span_lanes.specs.Figures.Rows.{side_by_side, cost_down}
use Rattle.prim_draw.specs.Costs.{inside_cost, triangle_cost, polygon_cost}
use Rattle.prim_draw.specs.Costs.{all_cost, rectangle_cost, ends_cost, draw_cost, box_cost}
use Rattle.prim_draw.specs.Laws.{CostLaw}
use Rattle.prim_draw.specs.Lines.{placed_ends, segment_box}
use Rattle.prim_draw.specs.Parts.{polygon, polygon_style, rectangle_style}
use Rattle.span_lanes.specs.Pattern.{Pattern, uniform, span_from}
use Rattle.prim_draw.specs.Rectangles.{extent_at, pattern_of, rectangle_box, rectangle_setup_in}
use Rattle.span_lanes.specs.Figures.Triangles.{draws, row_inside}
use Rattle.prim_draw.specs.Triangles.{lower_half, triangle_box, triangle_state, upper_half}
use Rattle.span_lanes.specs.declared.span.DrawState.{DrawState}
use Rattle.prim_draw.specs.declared.primitives.Polygon.{Polygon}
use Rattle.prim_draw.specs.declared.rectangles.Extent.{Extent}
use Rattle.prim_draw.specs.declared.rectangles.RectangleSetup.{RectangleSetup}
use Rattle.prim_draw.specs.declared.settings.Style.{Style}
use Rattle.prim_draw.proofs.PointCounts.{points_small}

-- ---- triangles

side_small : (p : Pattern) (cells : List Cell) → side_by_side p cells ≤ 4 * length cells
side_small p [] = omega arith
side_small p (cell ∷ cells) = span_small (span_from p cell (length (cell ∷ cells)))

kept_one : (b : Bool) (cell : Cell) (cells : List Cell) (n : ℕ) → length cells ≤ n
    → length (cond b (cell ∷ cells) cells) ≤ suc n
kept_one true cell cells n le = omega arith
kept_one false cell cells n le = omega arith

filter_small : (test : Cell → Bool) (cells : List Cell) → length (filter test cells) ≤ length cells
filter_small test [] = omega arith
filter_small test (cell ∷ cells) = kept_one (test cell) cell (filter test cells) (length cells)
    (filter_small test cells)

row_length : (x y n : ℕ) → length (row_cells x y n) ≡ n
unfolding row_cells
row_length x y n = length-map-range_with_len (cell_in_row x y) 0 n

more : (rows row w h : ℕ) → rows ≤ 4 * (w * h) → row ≤ 4 * w → rows + row ≤ 4 * (w * suc h)
more rows row w h f g = omega (arith, f, g, mul-suc w h)

-- rows of at most w cells each
rows_small : (p : Pattern) (row : ℕ → List Cell) (w top h : ℕ) → ((y : ℕ) → length (row y) ≤ w)
    → cost_down p row top h ≤ 4 * (w * h)
rows_small p row w top zero few = omega arith
rows_small p row w top (suc h) few =
    let here = side_small p (row (top + h)) in
    let cells = few (top + h) in
    more (cost_down p row top h) (side_by_side p (row (top + h))) w h (rows_small p row w top h few)
    (omega (arith, here, cells))

inside_small : (state : DrawState) (t : Corners) (box : Option Box2) → inside_cost state t box ≤ 4 * count_in box
inside_small state t None = omega arith
inside_small state t (Some b) =
    rows_small (uniform state) (row_inside t (clip_rect_of b)) (clip_rect_of b).w (clip_rect_of b).y (clip_rect_of b).h
    (λ y.
    let cells = row_cells (clip_rect_of b).x y (clip_rect_of b).w in
    let few = filter_small (draws t) cells in
    let long = row_length (clip_rect_of b).x y (clip_rect_of b).w in
    omega (arith, few, long))

triangle_small : (r : Registers) (style : Style) (t : Corners)
    → triangle_cost r style t ≤ 4 * count_in (triangle_box r t)
unfolding triangle_cost
triangle_small r style t = inside_small (triangle_state r style t) t (triangle_box r t)

sum_small : (four : Bool) (a b c d : ℕ) → a ≤ c → b ≤ d → a + cond four b 0 ≤ c + cond four d 0
sum_small true a b c d f g = omega arith
sum_small false a b c d f g = omega arith

-- ---- rectangles

all_small : (rectangle_setup : RectangleSetup) (e : Extent) (box : Option Box2)
    → all_cost rectangle_setup e box ≤ 4 * count_in box
all_small rectangle_setup e None = omega arith
all_small rectangle_setup e (Some b) =
    rows_small (pattern_of rectangle_setup e) (clip_row (clip_rect_of b)) (clip_rect_of b).w (clip_rect_of b).y
    (clip_rect_of b).h
    (λ y. let long = row_length (clip_rect_of b).x y (clip_rect_of b).w in omega (arith, long))

rectangle_small : (r : Registers) (rectangle_setup : RectangleSetup) (e : Extent)
    → rectangle_cost r rectangle_setup e ≤ 4 * count_in (rectangle_box r e)
unfolding rectangle_cost
rectangle_small r rectangle_setup e = all_small rectangle_setup e (rectangle_box r e)

-- ---- segments

admitted : (near : Bool) (cost : ℕ) (box : Option Box2) → cost ≤ 4 * count_in box
    → cond near cost 0 ≤ 4 * count_in (cond near box None)
admitted true cost box le = le
admitted false cost box le = omega arith

ends_small : (r : Registers) (s : Ends) → ends_cost r s ≤ 4 * count_in (segment_box r s)
unfolding ends_cost segment_box
ends_small r s = admitted (is_near s.first s.second) _ _ (points_small _ s)

-- ---- packets

pub cost_law : CostLaw
unfolding draw_cost box_cost polygon_cost
cost_law r (packet.Poly four a b c d shaded textured semi raw clut page) =
    let style = polygon_style shaded textured semi raw clut a in
    let p : Polygon = polygon four a b c d in
    sum_small four _ _ _ _ (triangle_small r style (upper_half r p)) (triangle_small r style (lower_half r p))
cost_law r (packet.Segment a b semi) = ends_small r (placed_ends r a b)
cost_law r (packet.Rect x y w h color textured semi raw u v clut) =
    rectangle_small r (rectangle_setup_in r (rectangle_style color textured semi raw clut) u v) (extent_at r x y w h)
cost_law r (packet.Fill color x y w h) = omega arith
cost_law r (packet.Copy from to w h) = omega arith
cost_law r (packet.Load x y w h) = omega arith
cost_law r (packet.Store x y w h) = omega arith
cost_law r (packet.Pixels word) = omega arith
cost_law r (packet.Env index value) = omega arith
cost_law r packet.Irq = omega arith
cost_law r packet.Nop = omega arith
cost_law r packet.Finish = omega arith
