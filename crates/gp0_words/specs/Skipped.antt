-- Data words of a load that are fed at once.
use Rattle.std.specs.Prelude.{ℕ, ◌-◌, nat_lt, if◌then◌else◌}
use Rattle.gp0_words.specs.declared.pending.Pending.{Pending}
use Rattle.gp0_words.specs.declared.pending.Pending.TheVariants as pending

-- what is pending after `count` of them; no change if no load is open
abbrev pub behind_pixels : Pending → (count : ℕ) → Pending
behind_pixels (pending.Pixels left) count = if nat_lt count left then pending.Pixels (left - count) else pending.Idle
behind_pixels other count = other
