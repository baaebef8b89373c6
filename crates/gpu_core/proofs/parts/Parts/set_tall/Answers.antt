use Rattle.std.proofs.Common.{◌≤◌, ◌∙◌, ap, arith, length, length-append}
use Rattle.gp1_status.specs.Registers.{Registers}
use Rattle.px_num.specs.Height.{tall_height}
use Rattle.vram_store.specs.Vram.{tall, rows_behind}
use Rattle.gpu_core.proofs.Jobs.{open_taller}
use Rattle.gpu_core.proofs.parts.Parts.set_tall.Goals as goal

pub invariant_of-self : goal.invariant_of-self
unfolding tall
invariant_of-self c =
    let m = c.self.inside.vram in
    let r : Registers = c.self.inside.regs in
    let height = ap (λ (r : Registers). r.height) c.set_tall-2.ensures in
    let cells = ap length c.set_tall.ensures.cells ∙ length-append m (rows_behind tall_height m) in
    let long = c.set_tall.ensures.long in
    let rows = c.self.invariant.rows in
    let more : r.height ≤ tall_height = omega (arith, cells, long, rows) in
    rw height (record {
      load = open_taller r.height tall_height c.self.inside.load more c.self.invariant.load;
      store = open_taller r.height tall_height c.self.inside.store more c.self.invariant.store;
      rows = long;
    })
