use Rattle.std.proofs.Common.{subst}
use Rattle.gpu_core.specs.Done.{IsDone}
use Rattle.gpu_core.specs.Machine.{Parts}
use Rattle.gpu_core.proofs.Drawing.{drawing_done}
use Rattle.gpu_core.proofs.parts.Parts.draw.Goals as goal

pub returns : goal.returns
returns g c =
    let inside = c.self.inside in
    let p : Parts = record { m = inside.vram; regs = inside.regs; load = inside.load; store = inside.store } in
    let now : Parts = record p { m = c.draw.new.vram; regs = c.put_own_page.new.regs } in
    let P : Parts → Type 0 = λ s. IsDone c.args.packet.now (record { parts = s; steps = c.args.steps.now })
    (record { parts = now; steps = c.draw.new.steps }) c.draw.result in
    subst P c.self.view_is
    (drawing_done p c.args.packet.now c.draw.new.vram c.put_own_page.new.regs c.draw.result c.args.steps.now
    c.draw.new.steps c.requires.drawn c.put_own_page.ensures.value c.draw.ensures.cells c.draw.ensures.area
    c.draw.ensures.cost)
