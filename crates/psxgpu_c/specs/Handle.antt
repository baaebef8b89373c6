-- What a handle owns: a box of a type, or nothing.
use Rattle.std.specs.Prelude.{◌≡◌, ℕ, refl}
use base.Fml.{Fml, ftrue}
use denote.RattleType.{RattleType}
use denote.RawPtr.{Ptr}
use Rattle.std.specs.declared.option.Option.{Option}
use Rattle.std.specs.declared.option.Option.TheVariants.{None, Some}
use Rattle.std.specs.declared.alloc.Global.{Global}
use Rattle.std.specs.contracts.impls.GlobalAllocator.TheImpl.{ghosts}
use Rattle.std.specs.Box.Ownership.{box_owns}

abbrev pub boxed : (row : RattleType) → Global → Ptr → row.Denot → Fml
boxed row a = box_owns (ghosts.dealloc_token a) row

abbrev pub holds : (row : RattleType) → Global → Ptr → Option row.Denot → Fml
holds row a p None = ftrue
holds row a p (Some x) = boxed row a p x

-- The handle has a value.
abbrev pub IsOpen : {Value : Type 0} → Option Value → Type 0
IsOpen None = ⊥
IsOpen (Some x) = Unit {0}

abbrev pub value_in : {Value : Type 0} → (held : Option Value) → IsOpen held → Value
value_in None open' = absurd open'
value_in (Some x) open' = x

pub value_in-is : {Value : Type 0} → (held : Option Value) (open' : IsOpen held) → held ≡ Some (value_in held open')
value_in-is None open' = absurd open'
value_in-is (Some x) open' = refl

-- the mark of a handle: 1 if it has a value, else 0
abbrev pub mark_of : {Value : Type 0} → Option Value → ℕ
mark_of None = 0
mark_of (Some x) = 1
