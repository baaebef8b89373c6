use Rattle.std.proofs.Common.{◌≡◌, Some, List, ℕ, Option, ◌*◌, ◌+◌, sym, ap, ◌∙◌, SFits, w8, rules}
use Rattle.std.proofs.lemmas.Int.{to_z-of_z}
use Rattle.span_lanes.specs.Shade.{flat_pixel, dither_of}
use Rattle.vram_store.specs.Plot.{draw_at, put_at, written_over}
use Rattle.vram_store.specs.Vram.{at}
use Rattle.prim_draw.proofs.lines.plot_seen.Goals as goal

-- putting what is written over a cell plots the pixel
put-written : (m : List ℕ) (mask x y back color : ℕ) (written pixel : Option ℕ) → back ≡ at m x y → Some color ≡ pixel
    → written ≡ written_over mask back (Some color)
    → put_at (1024 * y + x) written m ≡ draw_at mask (1024 * y + x) pixel m
put-written m mask x y back color written pixel seen is over =
    ap (λ (w : Option ℕ). put_at (1024 * y + x) w m) over
    ∙ ap (λ (cell : ℕ). put_at (1024 * y + x) (written_over mask cell (Some color)) m) seen
    ∙ ap (λ (p : Option ℕ). draw_at mask (1024 * y + x) p m) is

pub returns-in-Some-clause-cells : goal.returns-in-Some-clause-cells
returns-in-Some-clause-cells g c =
    let brush = c.args.brush.now in
    let m = c.args.vram.now in
    let fits : SFits w8 c.dither_offset-shift.result = search rules in
    let pixel : Some c.pixel_over-pixel.result
    ≡ flat_pixel brush c.args.color (dither_of brush.dither c.args.to.x c.args.to.y) (at m c.args.to.x c.args.to.y) =
    rw (← c.dither_offset-shift.ensures.value, ← c.get-back.ensures.value)
    (simp to_z-of_z at c.pixel_over-pixel.ensures) in
    c.put.ensures.cells ∙ put-written m brush.mask c.args.to.x c.args.to.y _ _ _ _ c.get-back.ensures.value pixel
    (sym c.in-Some.is ∙ c.write_color.ensures)

pub returns-in_default-clause-cells : goal.returns-in_default-clause-cells
returns-in_default-clause-cells g c =
    let brush = c.args.brush.now in
    let m = c.args.vram.now in
    let fits : SFits w8 c.dither_offset-shift.result = search rules in
    let pixel : Some c.pixel_over-pixel.result
    ≡ flat_pixel brush c.args.color (dither_of brush.dither c.args.to.x c.args.to.y) (at m c.args.to.x c.args.to.y) =
    rw (← c.dither_offset-shift.ensures.value, ← c.get-back.ensures.value)
    (simp to_z-of_z at c.pixel_over-pixel.ensures) in
    put-written m brush.mask c.args.to.x c.args.to.y _ _ _ _ c.get-back.ensures.value pixel
    (sym c.in_default.is ∙ c.write_color.ensures)
