use Rattle.vram_store.proofs.Ones.{ones}
use Rattle.gpu_core.proofs.parts.Parts.set_cells.Goals as goal

pub returns-clause-cells : goal.returns-clause-cells
returns-clause-cells g c =
    let stored = c.store16.ensures.cells in
    rw (← c.self.view_is) (record {
      count = stored.count;
      in_cells = stored.in_cells;
      written = λ j lt. stored.written j lt (ones j lt);
      others = stored.others;
    })
