use Rattle.std.proofs.Common.{◌≡◌, Some, List, ℕ, Option, ◌*◌, ◌+◌, ap, ◌∙◌, SFits, w8, rules}
use Rattle.std.proofs.lemmas.Int.{to_z-of_z}
use Rattle.span_lanes.specs.Shade.{flat_pixel, dither_of}
use Rattle.vram_store.specs.Plot.{draw_at}
use Rattle.vram_store.specs.Vram.{at, set}
use Rattle.vram_store.proofs.Drawn.{plot_is}
use Rattle.prim_draw.proofs.PointLemmas.{opaque_pixel, plot_untested}
use Rattle.prim_draw.proofs.lines.plot_unseen.Goals as goal

pub returns-clause-cells : goal.returns-clause-cells
returns-clause-cells g c =
    let brush = c.args.brush.now in
    let m = c.args.vram.now in
    let to = c.args.to in
    let place = 1024 * to.y + to.x in
    let f : Option ℕ → List ℕ = λ p. draw_at brush.mask place p m in
    let fits : SFits w8 c.dither_offset-shift.result = search rules in
    let pixel : Some c.pixel_over-pixel.result ≡ flat_pixel brush c.args.color (dither_of brush.dither to.x to.y) 0 =
    rw (← c.dither_offset-shift.ensures.value) (simp to_z-of_z at c.pixel_over-pixel.ensures) in
    c.put.ensures.cells
    ∙ ap (λ h. set m to.x to.y h) c.force.ensures
    ∙ plot_untested m brush.mask to.x to.y c.pixel_over-pixel.result c.requires.untested
    ∙ plot_is m brush.mask to.x to.y c.pixel_over-pixel.result
    ∙ ap f (pixel ∙ opaque_pixel brush c.args.color (dither_of brush.dither to.x to.y)
    (at m to.x to.y) c.requires.opaque)
