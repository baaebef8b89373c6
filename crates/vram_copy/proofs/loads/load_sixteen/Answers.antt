use Rattle.std.proofs.Common.{◌∙◌, ap}
use Rattle.vram_store.specs.Plot.{forced}
use Rattle.vram_copy.proofs.LoadLemmas.{run_at_once}
use Rattle.vram_copy.proofs.loads.load_sixteen.Goals as goal

pub returns-clause-cells : goal.returns-clause-cells
returns-clause-cells g c =
    run_at_once c.args.vram.now c.store16.new.self c.args.mask c.args.words.now c.args.to c.args.first
    (record { n = 16; lanes = c.force_lanes-lanes.result; bits = c.open_cells-open.result })
    (λ j lt. c.force_lanes-lanes.ensures.value j lt ∙ ap (forced c.args.mask) (c.pixels_at.ensures.value j lt))
    c.open_cells-open.ensures.bits
    c.store16.ensures.cells
