-- The rows of a box of video memory.
use Rattle.std.proofs.Common.{◌≡◌, ◌≤◌, ◌<◌, ◌+◌, ◌-◌, ℕ, ℤ, pos, false, ap, arith}
use Rattle.std.proofs.lemmas.Int.{ints}
use Rattle.px_num.specs.declared.shape.Box2.{Box2}
use Rattle.edge_walk.specs.Extent.{bounding_box}
use Rattle.edge_walk.specs.Row.{IsInBox, IsRowSpan}
use Rattle.edge_walk.specs.Triangle.{Corners, is_inside}
use Rattle.edge_walk.specs.Walk.{HasRows}
use Rattle.edge_walk.specs.declared.row_scan.RowScan.{RowScan}
use Rattle.span_lanes.specs.Figures.Boxes.{clip_rect_of, row_box, IsOnScreen, LiesInBox}
use Rattle.span_lanes.specs.Figures.Triangles.{IsScanRow, StandAt}
use Rattle.span_lanes.specs.declared.figures.triangle.TriangleRows.{TriangleRows}

-- a clip rectangle of video memory and its box
pub record IsBoxOf (clip : Box2) (x y w h : ℕ) : Type 0 where
  pub left : pos x ≡ clip.x1
  pub right : pos (x + w - 1) ≡ clip.x2
  pub top : pos y ≡ clip.y1
  pub bottom : pos (y + h - 1) ≡ clip.y2
  pub some : 1 ≤ w
  pub rows : 1 ≤ h
  pub in_row : x + w ≤ 1024

pub box_is : (clip : Box2) → IsOnScreen 1024 clip
    → IsBoxOf clip (clip_rect_of clip).x (clip_rect_of clip).y (clip_rect_of clip).w
    (clip_rect_of clip).h
unfolding clip_rect_of
box_is clip h = record {
  left = omega (arith, ints, h.left);
  right = omega (arith, ints, h.left, h.across);
  top = omega (arith, ints, h.top);
  bottom = omega (arith, ints, h.top, h.down);
  some = omega arith;
  rows = omega arith;
  in_row = omega (arith, ints, h.left, h.across, h.right);
}

module _ (t : Corners) (clip : Box2) (y : ℕ) (rows : RowScan) (h : IsScanRow t clip y rows) where
  in_clip : (x : ℤ) → IsInBox (row_box (clip_rect_of clip) y) x (pos y) → IsInBox clip x (pos y)
  in_clip x i = let b = box_is clip h.on_screen in
      ((omega (arith, ints, i.0.0, b.left), omega (arith, ints, i.0.1, b.right)), (h.stands.above, h.in_box))

  in_row : (x : ℤ) → IsInBox clip x (pos y) → IsInBox (row_box (clip_rect_of clip) y) x (pos y)
  in_row x i = let b = box_is clip h.on_screen in (
    (omega (arith, ints, i.0.0, b.left), omega (arith, ints, i.0.1, b.right)),
    (omega (arith, ints), omega (arith, ints)),
  )

  pub row_span : (first last : ℤ) → IsRowSpan t (pos y) clip first last
      → IsRowSpan t (pos y) (row_box (clip_rect_of clip) y) first last
  row_span first last s = record {
    order = s.order;
    cells = λ x. (λ i. (s.cells x).0 (in_clip x i.0, i.1), λ i. let r = (s.cells x).1 i in (in_row x r.0, r.1));
  }

  pub row_none : ((x : ℤ) → IsInBox clip x (pos y) → is_inside t x (pos y) ≡ false) → (x : ℤ)
      → IsInBox (row_box (clip_rect_of clip) y) x (pos y) → is_inside t x (pos y) ≡ false
  row_none none x i = none x (in_clip x i)

pub has_rows : (t : Corners) (clip : Box2) → IsOnScreen 1024 clip → LiesInBox (bounding_box t) clip → HasRows t clip
has_rows t clip h lies = record { top = lies.top; some = h.down; bottom = lies.bottom }

pub at_row : (rows : TriangleRows) (y : ℕ) → StandAt rows y → y < rows.clip_rect.y + rows.clip_rect.h
    → IsScanRow rows.tri.now rows.clip.now y rows.walk
at_row rows y at within =
    let clip = rows.clip.now in
    let box = box_is clip at.on_screen in
    let y_is : rows.clip_rect.y ≡ (clip_rect_of clip).y = ap (λ k. k.y) at.clip_rect in
    let h_is : rows.clip_rect.h ≡ (clip_rect_of clip).h = ap (λ k. k.h) at.clip_rect in
    record {
      stands = at.stands;
      on_screen = at.on_screen;
      in_box = omega (arith, ints, box.bottom, box.rows, y_is, h_is, within);
    }
