-- Why the output of an event is not complete (our own rule).
use Rattle.std.specs.Prelude.{ℕ, Result, Ok, Err}
use Rattle.event_loop.specs.declared.ended.Halt.{Halt}
use Rattle.event_loop.specs.declared.ended.Halt.TheVariants.{Lacks, Refuses}

abbrev pub Halts : {R : Type 0} → (Lacking : ℕ → Type 0) → (Refusing : R → Type 0) → Halt R → Type 0
Halts Lacking Refusing (Lacks number) = Lacking number
Halts Lacking Refusing (Refuses why) = Refusing why

abbrev pub MayLack : {R : Type 0} → Halt R → Type 0
MayLack (Lacks number) = Unit {0}
MayLack (Refuses why) = ⊥

-- a call failed because a write failed
abbrev pub FailsWriting : {Value R : Type 0} → Result Value (Halt R) → Type 0
FailsWriting (Ok v) = ⊥
FailsWriting (Err halt) = MayLack halt
