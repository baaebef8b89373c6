-- Drawing without texture, in two states of video memory.
use Rattle.std.proofs.Common.{◌≡◌, ℕ, List, [], ◌∷◌, Option, None, Some, Bool, true, false, cond, refl}
use Rattle.std.specs.List.{filter}
use Rattle.px_num.specs.declared.shape.Box2.{Box2}
use Rattle.px_num.specs.declared.shape.Vertex.{Vertex}
use Rattle.gp0_packets.specs.declared.packet.Packet.TheVariants as packet
use Rattle.gp1_status.specs.Registers.{Registers}
use Rattle.edge_walk.specs.Triangle.{Corners}
use Rattle.line_walk.specs.Line.{Ends, is_near, len_of, point_of}
use Rattle.span_lanes.specs.Cells.{drawn_cells}
use Rattle.span_lanes.specs.Shade.{paint_pixel}
use Rattle.span_lanes.specs.declared.span.Brush.{Brush}
use Rattle.span_lanes.specs.declared.span.Paint.{Paint}
use Rattle.span_lanes.specs.declared.span.Paint.TheVariants.{Flat, Shaded, TexturedTri, TexturedRow}
use Rattle.span_lanes.specs.Figures.Boxes.{clip_rect_of}
use Rattle.prim_draw.specs.Boxes.{cells_of}
use Rattle.prim_draw.specs.Draw.{drawn_packet}
use Rattle.prim_draw.specs.Lines.{drawn_ends, drawn_point, drawn_points, is_in, cell_of as cell_at, placed_ends}
use Rattle.prim_draw.specs.Parts.{polygon, polygon_style, rectangle_style}
use Rattle.prim_draw.specs.Rectangles.{extent_at, drawn_all, drawn_rectangle, rectangle_box, rectangle_setup_in}
use Rattle.prim_draw.specs.Rectangles.{rectangle_paint}
use Rattle.prim_draw.specs.Rectangles.{pattern_of}
use Rattle.span_lanes.specs.Pattern.{uniform, pixel_at}
use Rattle.gp1_status.specs.Drawing.{drawing_area}
use Rattle.prim_draw.specs.Settings.{brush_in}
use Rattle.span_lanes.specs.Figures.Triangles.{draws}
use Rattle.prim_draw.specs.Triangles.{drawn_inside, drawn_polygon, drawn_triangle}
use Rattle.prim_draw.specs.Triangles.{triangle_box, triangle_state, triangle_paint, upper_half, lower_half}
use Rattle.span_lanes.specs.declared.span.DrawState.{DrawState}
use Rattle.prim_draw.specs.declared.rectangles.Extent.{Extent}
use Rattle.prim_draw.specs.declared.rectangles.RectangleSetup.{RectangleSetup}
use Rattle.prim_draw.specs.declared.settings.Style.{Style}
use Rattle.prim_draw.specs.declared.primitives.Polygon.{Polygon}
use Rattle.prim_draw.specs.Apart.{SameAt}
use Rattle.prim_draw.specs.Staying.{DrawingIsLocal}
use Rattle.prim_draw.proofs.ApartLemmas.{IsLocal, cells_same, each_same}

-- ---- paints

abbrev IsUntexturedPaint : Paint → Type 0
IsUntexturedPaint (Flat color) = Unit {0}
IsUntexturedPaint (Shaded tri) = Unit {0}
IsUntexturedPaint (TexturedTri tri texture) = ⊥
IsUntexturedPaint (TexturedRow color texture u v flip) = ⊥

toned_local : (paint : Paint) (brush : Brush) → IsUntexturedPaint paint
    → IsLocal (λ cell m. paint_pixel paint brush cell.x cell.y 0 m)
toned_local (Flat color) brush bare = λ cell m now same. rw same refl
toned_local (Shaded tri) brush bare = λ cell m now same. rw same refl
toned_local (TexturedTri tri texture) brush bare = absurd bare
toned_local (TexturedRow color texture u v flip) brush bare = absurd bare

-- ---- triangles

inside_same : (state : DrawState) (t : Corners) (b : Option Box2) (k : ℕ) (m now : List ℕ)
    → IsUntexturedPaint state.paint
    → SameAt k m now → SameAt k (drawn_inside state t b m) (drawn_inside state t b now)
inside_same state t None k m now bare same = same
inside_same state t (Some b) k m now bare same = cells_same (pixel_at (uniform state)) state.brush.mask k
    (toned_local state.paint state.brush bare) (filter (draws t) (cells_of (clip_rect_of b))) m now same

flat_or_shaded : (b : Bool) (color : ℕ) (t : Corners) → IsUntexturedPaint (cond b (Shaded t) (Flat color))
flat_or_shaded true color t = tt
flat_or_shaded false color t = tt

untextured_paint : (r : Registers) (style : Style) (t : Corners) → style.textured ≡ false
    → IsUntexturedPaint (triangle_paint r style t)
unfolding triangle_paint
untextured_paint r style t e = rw e (flat_or_shaded style.shaded style.color t)

triangle_same : (r : Registers) (style : Style) (t : Corners) (k : ℕ) (m now : List ℕ) → style.textured ≡ false
    → SameAt k m now → SameAt k (drawn_triangle r style t m) (drawn_triangle r style t now)
unfolding drawn_triangle triangle_state
triangle_same r style t k m now e same = inside_same (triangle_state r style t) t (triangle_box r t) k m now
    (untextured_paint r style t e) same

polygon_same : (r : Registers) (style : Style) (p : Polygon) (k : ℕ) (m now : List ℕ) → style.textured ≡ false
    → SameAt k m now
    → SameAt k (drawn_polygon r style p m) (drawn_polygon r style p now)
unfolding drawn_polygon
polygon_same r style p k m now e same = by_test p.four
  where
    by_test : (b : Bool)
        → SameAt k
        (cond b (drawn_triangle r style (lower_half r p) (drawn_triangle r style (upper_half r p) m))
        (drawn_triangle r style (upper_half r p) m))
        (cond b (drawn_triangle r style (lower_half r p) (drawn_triangle r style (upper_half r p) now))
        (drawn_triangle r style (upper_half r p) now))
    by_test true = triangle_same r style (lower_half r p) k _ _ e
        (triangle_same r style (upper_half r p) k m now e same)
    by_test false = triangle_same r style (upper_half r p) k m now e same

-- ---- rectangles

tile_local : (rectangle_setup : RectangleSetup) (e : Extent) → rectangle_setup.texture ≡ None
    → IsLocal (pixel_at (pattern_of rectangle_setup e))
unfolding rectangle_paint
tile_local rectangle_setup e none = λ cell m now same. rw none (rw same refl)

all_same : (rectangle_setup : RectangleSetup) (e : Extent) (b : Option Box2) (k : ℕ) (m now : List ℕ)
    → rectangle_setup.texture ≡ None
    → SameAt k m now → SameAt k (drawn_all rectangle_setup e b m) (drawn_all rectangle_setup e b now)
all_same rectangle_setup e None k m now none same = same
all_same rectangle_setup e (Some b) k m now none same =
    cells_same (pixel_at (pattern_of rectangle_setup e)) rectangle_setup.brush.mask k (tile_local
    rectangle_setup e none)
    (cells_of (clip_rect_of b)) m now same

rectangle_same : (r : Registers) (rectangle_setup : RectangleSetup) (e : Extent) (k : ℕ) (m now : List ℕ)
    → rectangle_setup.texture ≡ None
    → SameAt k m now
    → SameAt k (drawn_rectangle r rectangle_setup e m) (drawn_rectangle r rectangle_setup e now)
unfolding drawn_rectangle
rectangle_same r rectangle_setup e k m now none same = all_same rectangle_setup e (rectangle_box r e) k m now none same

untextured_tile : (r : Registers) (color : ℕ) (semi raw : Bool) (u v clut : ℕ)
    → (rectangle_setup_in r (rectangle_style color false semi raw clut) u v).texture ≡ None
unfolding rectangle_setup_in
untextured_tile r color semi raw u v clut = refl

-- ---- lines

point_same : (area : Box2) (brush : Brush) (p : Vertex) (k : ℕ) (m now : List ℕ) → SameAt k m now
    → SameAt k (drawn_point area brush p m) (drawn_point area brush p now)
unfolding drawn_point
point_same area brush p k m now same = by_test (is_in area p)
  where
    by_test : (b : Bool)
        → SameAt k
        (cond b (drawn_cells (pixel_at (uniform (record { paint = Flat p.color; brush = brush }))) brush.mask
        (cell_at p ∷ []) m) m)
        (cond b (drawn_cells (pixel_at (uniform (record { paint = Flat p.color; brush = brush }))) brush.mask
        (cell_at p ∷ []) now) now)
    by_test true = cells_same (pixel_at (uniform (record { paint = Flat p.color; brush = brush }))) brush.mask k
        (toned_local (Flat p.color) brush tt) (cell_at p ∷ []) m now same
    by_test false = same

points_same : (area : Box2) (brush : Brush) (s : Ends) (n k : ℕ) (m now : List ℕ) → SameAt k m now
    → SameAt k (drawn_points area brush s n m) (drawn_points area brush s n now)
points_same area brush s n k m now same =
    each_same (SameAt k) (λ i. drawn_point area brush (point_of s i)) n m now same
    (λ i a b h. point_same area brush (point_of s i) k a b h)

ends_same : (r : Registers) (semi : Bool) (s : Ends) (k : ℕ) (m now : List ℕ) → SameAt k m now
    → SameAt k (drawn_ends r semi s m) (drawn_ends r semi s now)
unfolding drawn_ends
ends_same r semi s k m now same = by_test (is_near s.first s.second)
  where
    by_test : (b : Bool) → SameAt k (cond b (drawn_points (drawing_area r) (brush_in r semi true) s (len_of s) m) m)
        (cond b (drawn_points (drawing_area r) (brush_in r semi true) s (len_of s) now) now)
    by_test true = points_same (drawing_area r) (brush_in r semi true) s (len_of s) k m now same
    by_test false = same

-- ---- packets

pub drawing_is_local : DrawingIsLocal
unfolding drawn_packet
drawing_is_local r (packet.Poly four a b c d shaded true semi raw clut page) k m now bare same = absurd bare
drawing_is_local r (packet.Poly four a b c d shaded false semi raw clut page) k m now bare same =
    polygon_same r (polygon_style shaded false semi raw clut a) (polygon four a b c d) k m now refl same
drawing_is_local r (packet.Segment a b semi) k m now bare same = ends_same r semi (placed_ends r a b) k m now same
drawing_is_local r (packet.Rect x y w h color true semi raw u v clut) k m now bare same = absurd bare
drawing_is_local r (packet.Rect x y w h color false semi raw u v clut) k m now bare same =
    rectangle_same r (rectangle_setup_in r (rectangle_style color false semi raw clut) u v)
    (extent_at r x y w h) k m now
    (untextured_tile r color semi raw u v clut) same
drawing_is_local r (packet.Fill color x y w h) k m now bare same = same
drawing_is_local r (packet.Copy from to w h) k m now bare same = same
drawing_is_local r (packet.Load x y w h) k m now bare same = same
drawing_is_local r (packet.Store x y w h) k m now bare same = same
drawing_is_local r (packet.Pixels word) k m now bare same = same
drawing_is_local r (packet.Env index value) k m now bare same = same
drawing_is_local r packet.Irq k m now bare same = same
drawing_is_local r packet.Nop k m now bare same = same
drawing_is_local r packet.Finish k m now bare same = same
