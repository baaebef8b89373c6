-- Faults of a device as the cause of a failure (our own rule).
use Rattle.std.specs.Prelude.{◌≤◌, ℕ, Result, Ok, Err}
use Rattle.dev_io.specs.Device.{Rose}

-- The device's count of faults does not fall. It rose if `Failed` holds.
pub record Causes (Failed : Type 0) (before now : ℕ) : Type 0 where
  pub kept : before ≤ now
  pub cause : Failed → Rose before now

-- a call failed
abbrev pub Fails : {Value Error : Type 0} → Result Value Error → Type 0
Fails (Ok v) = ⊥
Fails (Err e) = Unit {0}
