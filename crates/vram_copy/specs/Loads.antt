-- Pixels of several words, in cells of one row.
use Rattle.std.specs.Prelude.{ℕ, List, ◌+◌}
use Rattle.px_num.specs.Fold.{each_below}
use Rattle.vram_store.specs.Plot.{plot}
use Rattle.vram_copy.specs.Words.{pixel_of}
use Rattle.vram_copy.specs.declared.loads.Stretch.{Stretch}

-- pixels of words are plotted, one after another, in cells of one row
abbrev pub loaded_run : List ℕ → ℕ → List ℕ → Stretch → List ℕ
loaded_run m mask words s =
    each_below (λ i cells. plot cells mask (s.to.x + i) s.to.y (pixel_of words (s.first + i))) s.n m
