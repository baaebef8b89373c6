-- Lists of zeros.
use Rattle.std.specs.Prelude.{ℕ, List, replicate}

-- n zeros; no proof computes them
unfoldable pub zeros : ℕ → List ℕ
zeros n = replicate n 0
