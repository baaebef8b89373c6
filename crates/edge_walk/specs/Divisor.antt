-- A doubled area that divides sums of attributes.
use Rattle.std.specs.Prelude.{ℕ, ◌+◌, ◌/◌, ◌^◌, ◌<◌, ◌≤◌, ◌≡◌}
use Rattle.edge_walk.specs.declared.divisor.Divisor.{Divisor}

-- the factor of a sum: the low 56 bits of the product are the fraction of the quotient
abbrev pub reciprocal_of : ℕ → ℕ
reciprocal_of area = 2 ^ 56 / area + 1

abbrev pub divisor_of : ℕ → Divisor
divisor_of area = record { area = area; reciprocal = reciprocal_of area }

pub record IsDivisor (d : Divisor) : Type 0 where
  pub some : 0 < d.area
  pub most : d.area ≤ 1045506
  pub reciprocal : d.reciprocal ≡ reciprocal_of d.area
