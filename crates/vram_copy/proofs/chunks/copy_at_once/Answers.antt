use Rattle.std.proofs.Common.{arith, ◌∙◌, ap}
use Rattle.vram_store.specs.Plot.{forced}
use Rattle.vram_copy.proofs.CopyLemmas.{free_of, run_at_once}
use Rattle.vram_copy.proofs.chunks.copy_at_once.Goals as goal

pub returns-clause-cells : goal.returns-clause-cells
returns-clause-cells g c =
    run_at_once c.args.vram.now c.store16.new.self c.args.mask c.args.way.from c.args.way.to
    (record { n = c.args.n; lanes = c.force_lanes-lanes.result; bits = c.open_cells-open.result })
    (free_of c.args.way.from c.args.way.to c.args.n c.requires.free) c.requires.source_in.0 c.requires.target_in.0
    (record {
      colors = λ j lt. c.force_lanes-lanes.ensures.value j (omega (arith, lt, c.requires.count.1))
          ∙ ap (forced c.args.mask) (c.load16-colors.ensures.lanes.cells j lt);
      open_cells = c.open_cells-open.ensures.bits;
    })
    c.store16.ensures.cells
