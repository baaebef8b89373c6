-- What reading uses besides the machine.
use Rattle.std.specs.Prelude.{ℕ, List, Option}

-- the bytes left of a source (None if it does not state them), and the steps (accesses to video memory) so far
pub record Intake : Type 0 where
  pub left : Option (List ℕ)
  pub steps : ℕ

abbrev pub intake : (left : Option (List ℕ)) (steps : ℕ) → Intake
intake left steps = record { left = left; steps = steps }
