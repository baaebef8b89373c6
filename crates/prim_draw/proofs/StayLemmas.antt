-- Drawing changes no cell outside its area.
use Rattle.std.proofs.Common.{◌≡◌, ◌<◌, ◌≤◌, ◌+◌, ◌*◌, ◌/◌, ◌%◌, ◌||◌, ℕ, zero, suc, ℤ, pos, ◌≤ℤ◌, int_lt}
use Rattle.std.proofs.Common.{unsigned_abs, List, [], ◌∷◌, ◌++◌, Option, None, Some, IfSome, Bool, true, false, cond}
use Rattle.std.proofs.Common.{refl, sym, subst, arith}
use Rattle.std.specs.List.{filter}
use Rattle.std.proofs.lemmas.Int.{ints, clamps}
use Rattle.px_num.specs.declared.shape.Box2.{Box2}
use Rattle.px_num.specs.declared.shape.Cell.{Cell}
use Rattle.px_num.specs.declared.shape.Vertex.{Vertex}
use Rattle.gp0_packets.specs.declared.packet.Packet.TheVariants as packet
use Rattle.gp1_status.specs.Registers.{Registers}
use Rattle.edge_walk.specs.Extent.{bounding_box}
use Rattle.edge_walk.specs.Triangle.{Corners, is_drawn}
use Rattle.line_walk.specs.Line.{Ends, is_near, len_of, point_of, IsBetweenEnds}
use Rattle.line_walk.proofs.RiseLemmas.{point_of-between}
use Rattle.span_lanes.specs.Cells.{drawn_cells, row_cells, cell_in_row}
use Rattle.span_lanes.specs.declared.span.Brush.{Brush}
use Rattle.span_lanes.specs.declared.span.Paint.TheVariants.{Flat}
use Rattle.prim_draw.specs.Areas.{area_of, hull, joined, polygon_area}
use Rattle.span_lanes.specs.Figures.Boxes.{clip_rect_of}
use Rattle.prim_draw.specs.Boxes.{cells_in_rows, cells_of, clipped, overlap, some_box}
use Rattle.prim_draw.specs.Draw.{drawn_packet}
use Rattle.prim_draw.specs.Lines.{drawn_ends, drawn_point, drawn_points, ends_box, is_in, cell_of, placed_ends}
use Rattle.prim_draw.specs.Lines.{segment_box}
use Rattle.prim_draw.specs.Parts.{polygon, polygon_style, rectangle_style}
use Rattle.prim_draw.specs.Rectangles.{cells_box, extent_at, drawn_all, drawn_rectangle, rectangle_box, pattern_of}
use Rattle.prim_draw.specs.Rectangles.{rectangle_setup_in}
use Rattle.span_lanes.specs.Pattern.{uniform, pixel_at}
use Rattle.gp1_status.specs.Drawing.{drawing_area}
use Rattle.prim_draw.specs.Settings.{brush_in}
use Rattle.span_lanes.specs.Figures.Triangles.{draws}
use Rattle.prim_draw.specs.Triangles.{drawn_inside, drawn_polygon, drawn_triangle}
use Rattle.prim_draw.specs.Triangles.{triangle_box, triangle_state, upper_half, lower_half}
use Rattle.span_lanes.specs.declared.span.DrawState.{DrawState}
use Rattle.prim_draw.specs.declared.rectangles.Extent.{Extent}
use Rattle.prim_draw.specs.declared.rectangles.RectangleSetup.{RectangleSetup}
use Rattle.prim_draw.specs.declared.settings.Style.{Style}
use Rattle.prim_draw.specs.declared.primitives.Polygon.{Polygon}
use Rattle.prim_draw.proofs.PointLemmas.{LiesBetween, columns_of, rows_of}
use Rattle.span_lanes.proofs.CellsLemmas.{row_more, row_none}
use Rattle.prim_draw.specs.Apart.{Has, IsIn, AgreeOutside}
use Rattle.prim_draw.specs.Staying.{DrawingStays}
use Rattle.prim_draw.proofs.ApartLemmas.{EachCell, but_same, but_then, but_more, cells_but, each_but}

-- ---- the cells of a box

each_append : (among : ℕ → Type 0) (cells more : List Cell) → EachCell among cells → EachCell among more
    → EachCell among (cells ++ more)
each_append among [] more a b = b
each_append among (cell ∷ cells) more a b = (a.0, each_append among cells more a.1 b)

keep_or_drop : (among : ℕ → Type 0) (test : Bool) (cell : Cell) (cells : List Cell) → among (1024 * cell.y + cell.x)
    → EachCell among cells → EachCell among (cond test (cell ∷ cells) cells)
keep_or_drop among true cell cells here each = (here, each)
keep_or_drop among false cell cells here each = each

each_filter : (among : ℕ → Type 0) (test : Cell → Bool) (cells : List Cell) → EachCell among cells
    → EachCell among (filter test cells)
each_filter among test [] each = tt
each_filter among test (cell ∷ cells) each = keep_or_drop among (test cell) cell (filter test cells) each.0
    (each_filter among test cells each.1)

each_row : (among : ℕ → Type 0) (x y n : ℕ) → ((i : ℕ) → i < n → among (1024 * y + (x + i)))
    → EachCell among (row_cells x y n)
each_row among x y zero h = subst (EachCell among) (sym (row_none x y)) tt
each_row among x y (suc n) h = subst (EachCell among) (sym (row_more x y n))
    (each_append among (row_cells x y n) (cell_in_row x y n ∷ [])
    (each_row among x y n (λ i lt. h i (omega (arith, lt)))) (h n (omega arith), tt))

each_rows : (among : ℕ → Type 0) (x y w h : ℕ) → ((i j : ℕ) → i < w → j < h → among (1024 * (y + j) + (x + i)))
    → EachCell among (cells_in_rows x y w h)
each_rows among x y w zero all = tt
each_rows among x y w (suc h) all =
    each_append among (cells_in_rows x y w h) (row_cells x (y + h) w)
    (each_rows among x y w h (λ i j lt lu. all i j lt (omega (arith, lu))))
    (each_row among x (y + h) w (λ i lt. all i h lt (omega arith)))

-- a box with at least one cell, between the left and the right edge of video memory
pub record IsSeen (b : Box2) : Type 0 where
  pub left : pos 0 ≤ℤ b.x1
  pub across : b.x1 ≤ℤ b.x2
  pub right : b.x2 ≤ℤ pos 1023
  pub top : pos 0 ≤ℤ b.y1
  pub down : b.y1 ≤ℤ b.y2

in_clip : (b : Box2) (i j : ℕ) → IsSeen b → i < (clip_rect_of b).w → j < (clip_rect_of b).h
    → Has b (1024 * ((clip_rect_of b).y + j) + ((clip_rect_of b).x + i))
unfolding clip_rect_of
in_clip b i j seen lt lu =
    let column : pos (unsigned_abs b.x1 + i) ≤ℤ b.x2 = omega (arith, ints, seen.left, seen.across, lt) in
    let row : pos (unsigned_abs b.y1 + j) ≤ℤ b.y2 = omega (arith, ints, seen.top, seen.down, lu) in
    let x : (1024 * (unsigned_abs b.y1 + j) + (unsigned_abs b.x1 + i)) % 1024 ≡ unsigned_abs b.x1 + i = omega
    (arith, ints, column, seen.right) in
    let y : (1024 * (unsigned_abs b.y1 + j) + (unsigned_abs b.x1 + i)) / 1024 ≡ unsigned_abs b.y1 + j = omega
    (arith, ints, column, seen.right) in
    record {
      left = rw x (omega (arith, ints, seen.left));
      right = rw x column;
      top = rw y (omega (arith, ints, seen.top));
      bottom = rw y row;
    }

each_in_box : (b : Box2) → IsSeen b → EachCell (Has b) (cells_of (clip_rect_of b))
each_in_box b seen = each_rows (Has b) (clip_rect_of b).x (clip_rect_of b).y (clip_rect_of b).w (clip_rect_of b).h
    (λ i j lt lu. in_clip b i j seen lt lu)

-- ---- boxes that are clipped to the drawing area

not_less : (a b : ℤ) → false ≡ int_lt b a → a ≤ℤ b
not_less a b e = grind (arith, ints)

seen_by : (b : Box2) (across down : Bool) → across ≡ int_lt b.x2 b.x1 → down ≡ int_lt b.y2 b.y1 → pos 0 ≤ℤ b.x1
    → b.x2 ≤ℤ pos 1023 → pos 0 ≤ℤ b.y1
    → IfSome (cond (across || down) None (Some b)) IsSeen
seen_by b true down e f left right top = tt
seen_by b false true e f left right top = tt
seen_by b false false e f left right top = record {
  left = left;
  across = not_less b.x1 b.x2 e;
  right = right;
  top = top;
  down = not_less b.y1 b.y2 f;
}

clipped_seen : (r : Registers) (b : Box2) → IfSome (clipped r b) IsSeen
unfolding some_box overlap drawing_area
clipped_seen r b = seen_by (overlap b (drawing_area r)) _ _ refl refl (omega (arith, ints, clamps))
    (omega (arith, ints, clamps)) (omega (arith, ints, clamps))

test_seen : (r : Registers) (b : Box2) (test : Bool) → IfSome (cond test (clipped r b) None) IsSeen
test_seen r b true = clipped_seen r b
test_seen r b false = tt

test_unseen : (r : Registers) (b : Box2) (test : Bool) → IfSome (cond test None (clipped r b)) IsSeen
test_unseen r b true = tt
test_unseen r b false = clipped_seen r b

triangle_seen : (r : Registers) (t : Corners) → IfSome (triangle_box r t) IsSeen
unfolding triangle_box
triangle_seen r t = test_seen r (bounding_box t) (is_drawn t)

rectangle_seen : (r : Registers) (e : Extent) → IfSome (rectangle_box r e) IsSeen
unfolding rectangle_box
rectangle_seen r e = test_unseen r (cells_box e) _

-- ---- triangles

inside_stays : (state : DrawState) (t : Corners) (b : Option Box2) (m : List ℕ) → IfSome b IsSeen
    → AgreeOutside b m (drawn_inside state t b m)
inside_stays state t None m seen = but_same _ m
inside_stays state t (Some b) m seen = cells_but (Has b) (pixel_at (uniform state)) state.brush.mask _ m
    (each_filter (Has b) (draws t) (cells_of (clip_rect_of b)) (each_in_box b seen))

triangle_stays : (r : Registers) (style : Style) (t : Corners) (m : List ℕ)
    → AgreeOutside (triangle_box r t) m (drawn_triangle r style t m)
unfolding drawn_triangle
triangle_stays r style t m = inside_stays (triangle_state r style t) t (triangle_box r t) m (triangle_seen r t)

in_first : (a b : Option Box2) (k : ℕ) → IsIn a k → IsIn (joined a b) k
unfolding hull
in_first None b k h = absurd h
in_first (Some a) None k h = h
in_first (Some a) (Some b) k h = record {
  left = omega (arith, ints, clamps, h.left);
  right = omega (arith, ints, clamps, h.right);
  top = omega (arith, ints, clamps, h.top);
  bottom = omega (arith, ints, clamps, h.bottom);
}

in_second : (a b : Option Box2) (k : ℕ) → IsIn b k → IsIn (joined a b) k
unfolding hull
in_second None b k h = h
in_second (Some a) None k h = absurd h
in_second (Some a) (Some b) k h = record {
  left = omega (arith, ints, clamps, h.left);
  right = omega (arith, ints, clamps, h.right);
  top = omega (arith, ints, clamps, h.top);
  bottom = omega (arith, ints, clamps, h.bottom);
}

polygon_stays : (r : Registers) (style : Style) (p : Polygon) (m : List ℕ)
    → AgreeOutside (polygon_area r p) m (drawn_polygon r style p m)
unfolding polygon_area drawn_polygon
polygon_stays r style p m = by_test p.four
  where
    by_test : (b : Bool)
        → AgreeOutside
        (cond b (joined (triangle_box r (upper_half r p)) (triangle_box r (lower_half r p)))
        (triangle_box r (upper_half r p))) m
        (cond b (drawn_triangle r style (lower_half r p) (drawn_triangle r style (upper_half r p) m))
        (drawn_triangle r style (upper_half r p) m))
    by_test true =
        let first = triangle_box r (upper_half r p) in
        let second = triangle_box r (lower_half r p) in
        let between = drawn_triangle r style (upper_half r p) m in
        but_then (IsIn (joined first second)) m between _
        (but_more (IsIn first) (IsIn (joined first second)) m between (λ k h. in_first first second k h)
        (triangle_stays r style (upper_half r p) m))
        (but_more (IsIn second) (IsIn (joined first second)) between _ (λ k h. in_second first second k h)
        (triangle_stays r style (lower_half r p) between))
    by_test false = triangle_stays r style (upper_half r p) m

-- ---- rectangles

all_stays : (rectangle_setup : RectangleSetup) (e : Extent) (b : Option Box2) (m : List ℕ) → IfSome b IsSeen
    → AgreeOutside b m (drawn_all rectangle_setup e b m)
all_stays rectangle_setup e None m seen = but_same _ m
all_stays rectangle_setup e (Some b) m seen =
    cells_but (Has b) (pixel_at (pattern_of rectangle_setup e)) rectangle_setup.brush.mask _ m
    (each_in_box b seen)

rectangle_stays : (r : Registers) (rectangle_setup : RectangleSetup) (e : Extent) (m : List ℕ)
    → AgreeOutside (rectangle_box r e) m (drawn_rectangle r rectangle_setup e m)
unfolding drawn_rectangle
rectangle_stays r rectangle_setup e m = all_stays rectangle_setup e (rectangle_box r e) m (rectangle_seen r e)

-- ---- lines

less_not : (a b : ℤ) → true ≡ int_lt b a → a ≤ℤ b → ⊥
less_not a b e h = grind (arith, ints)

in_by : (b : Box2) (k : ℕ) (across down : Bool) → across ≡ int_lt b.x2 b.x1 → down ≡ int_lt b.y2 b.y1 → Has b k
    → IsIn (cond (across || down) None (Some b)) k
in_by b k true down e f h = less_not b.x1 b.x2 e (omega (arith, ints, h.left, h.right))
in_by b k false true e f h = less_not b.y1 b.y2 f (omega (arith, ints, h.top, h.bottom))
in_by b k false false e f h = h

in_some : (b : Box2) (k : ℕ) → Has b k → IsIn (some_box b) k
unfolding some_box
in_some b k h = in_by b k _ _ refl refl h

-- an area between the left and the right edge of video memory
record IsWide (b : Box2) : Type 0 where
  left : pos 0 ≤ℤ b.x1
  right : b.x2 ≤ℤ pos 1023
  top : pos 0 ≤ℤ b.y1

area_wide : (r : Registers) → IsWide (drawing_area r)
unfolding drawing_area
area_wide r = record { left = omega (arith, ints); right = omega (arith, ints); top = omega (arith, ints) }

in_both : (s : Ends) (area : Box2) (p : Vertex) → IsWide area → IsBetweenEnds s p → LiesBetween area.x1 area.x2 p.x
    → LiesBetween area.y1 area.y2 p.y
    → Has (overlap (ends_box s) area) (1024 * unsigned_abs p.y + unsigned_abs p.x)
unfolding overlap ends_box
in_both s area p wide amid columns rows =
    let column : unsigned_abs p.x ≤ 1023 = omega (arith, ints, wide.left, wide.right, columns.from, columns.to) in
    let x : pos ((1024 * unsigned_abs p.y + unsigned_abs p.x) % 1024) ≡ p.x = omega
    (arith, ints, wide.left, columns.from, column) in
    let y : pos ((1024 * unsigned_abs p.y + unsigned_abs p.x) / 1024) ≡ p.y = omega
    (arith, ints, wide.top, rows.from, column) in
    record {
      left = rw x (omega (arith, ints, clamps, amid.across, columns.from));
      right = rw x (omega (arith, ints, clamps, amid.across, columns.to));
      top = rw y (omega (arith, ints, clamps, amid.down, rows.from));
      bottom = rw y (omega (arith, ints, clamps, amid.down, rows.to));
    }

in_segment : (r : Registers) (s : Ends) (p : Vertex) → IsBetweenEnds s p → is_in (drawing_area r) p ≡ true
    → IsIn (clipped r (ends_box s)) (1024 * (cell_of p).y + (cell_of p).x)
in_segment r s p amid inside =
    in_some (overlap (ends_box s) (drawing_area r)) _
    (in_both s (drawing_area r) p (area_wide r) amid (columns_of (drawing_area r) p inside)
    (rows_of (drawing_area r) p inside))

point_stays : (r : Registers) (brush : Brush) (s : Ends) (p : Vertex) (m : List ℕ) → IsBetweenEnds s p
    → AgreeOutside (clipped r (ends_box s)) m (drawn_point (drawing_area r) brush p m)
unfolding drawn_point
point_stays r brush s p m amid = by_test (is_in (drawing_area r) p) refl
  where
    by_test : (b : Bool) → is_in (drawing_area r) p ≡ b
        → AgreeOutside (clipped r (ends_box s)) m
        (cond b (drawn_cells (pixel_at (uniform (record { paint = Flat p.color; brush = brush }))) brush.mask
        (cell_of p ∷ []) m) m)
    by_test true e = cells_but (IsIn (clipped r (ends_box s)))
        (pixel_at (uniform (record { paint = Flat p.color; brush = brush }))) brush.mask (cell_of p ∷ []) m
        (in_segment r s p amid e, tt)
    by_test false e = but_same _ m

ends_stays : (r : Registers) (semi : Bool) (s : Ends) (m : List ℕ)
    → AgreeOutside (segment_box r s) m (drawn_ends r semi s m)
unfolding drawn_ends segment_box
ends_stays r semi s m = by_test (is_near s.first s.second)
  where
    by_test : (b : Bool)
        → AgreeOutside (cond b (clipped r (ends_box s)) None) m
        (cond b (drawn_points (drawing_area r) (brush_in r semi true) s (len_of s) m) m)
    by_test true = each_but (IsIn (clipped r (ends_box s)))
        (λ i. drawn_point (drawing_area r) (brush_in r semi true) (point_of s i)) (len_of s) m
        (λ i a lt. point_stays r (brush_in r semi true) s (point_of s i) a (point_of-between s i lt))
    by_test false = but_same _ m

-- ---- packets

pub drawing_stays : DrawingStays
unfolding drawn_packet area_of
drawing_stays r (packet.Poly four a b c d shaded textured semi raw clut page) m =
    polygon_stays r (polygon_style shaded textured semi raw clut a) (polygon four a b c d) m
drawing_stays r (packet.Segment a b semi) m = ends_stays r semi (placed_ends r a b) m
drawing_stays r (packet.Rect x y w h color textured semi raw u v clut) m =
    rectangle_stays r (rectangle_setup_in r (rectangle_style color textured semi raw clut) u v) (extent_at r x y w h) m
drawing_stays r (packet.Fill color x y w h) m = but_same _ m
drawing_stays r (packet.Copy from to w h) m = but_same _ m
drawing_stays r (packet.Load x y w h) m = but_same _ m
drawing_stays r (packet.Store x y w h) m = but_same _ m
drawing_stays r (packet.Pixels word) m = but_same _ m
drawing_stays r (packet.Env index value) m = but_same _ m
drawing_stays r packet.Irq m = but_same _ m
drawing_stays r packet.Nop m = but_same _ m
drawing_stays r packet.Finish m = but_same _ m
