use Rattle.std.proofs.Common.{◌≡◌, Some, List, ℕ, pos, Option, ◌*◌, ◌+◌, ap, sym, ◌∙◌}
use Rattle.span_lanes.specs.Shade.{flat_pixel, dither_of}
use Rattle.vram_store.specs.Plot.{draw_at}
use Rattle.vram_store.specs.Vram.{at, set}
use Rattle.vram_store.proofs.Drawn.{plot_is}
use Rattle.prim_draw.proofs.PointLemmas.{opaque_pixel, plot_untested}
use Rattle.prim_draw.proofs.InkLemmas.{undithered_shift}
use Rattle.prim_draw.proofs.lines.point_color_of.Goals as goal

pub returns-else-asks_for_cell : goal.returns-else-asks_for_cell
returns-else-asks_for_cell c cell m =
    let brush = c.args.brush.now in
    let no = c.if-asks_for_cell.false in
    let place = 1024 * cell.y + cell.x in
    let f : Option ℕ → List ℕ = λ p. draw_at brush.mask place p m in
    let flat : dither_of brush.dither cell.x cell.y ≡ pos 0 = undithered_shift brush.dither cell.x cell.y
    (c.asks_for_cell.ensures.undithered no) in
    let pixel : Some c.pixel_over.result ≡ flat_pixel brush c.args.color (pos 0) 0 = c.pixel_over.ensures in
    sym
    (ap (λ h. set m cell.x cell.y h) c.force.ensures
    ∙ plot_untested m brush.mask cell.x cell.y c.pixel_over.result (c.asks_for_cell.ensures.untested no)
    ∙ plot_is m brush.mask cell.x cell.y c.pixel_over.result
    ∙ ap f (pixel ∙ opaque_pixel brush c.args.color (pos 0) (at m cell.x cell.y) (c.asks_for_cell.ensures.opaque no)
    ∙ ap (λ shift. flat_pixel brush c.args.color shift (at m cell.x cell.y)) (sym flat)))
