-- Calls of a reader or a writer of std, which a signal may interrupt (our own rule).
use Rattle.std.specs.Prelude.{◌≡◌, ◌≢◌, ◌^◌, ◌-◌, ◌++◌, ◌⊎◌, ℕ, List, [], ◌∷◌, Option, None, Some, Result, Ok, Err}
use Rattle.std.specs.Prelude.{◌<◌, IfErr, IsErr, min, replicate}

-- what a call returned: a number of bytes, or the kind of its error
abbrev pub outcome_of : {Error Kind : Type 0} → (Error → Kind) → Result ℕ Error → Result ℕ Kind
outcome_of kind (Ok n) = Ok n
outcome_of kind (Err error) = Err (kind error)

-- the calls before, and then these; `None` if contracts do not know them
abbrev pub then_called : {Call : Type 0} → Option (List Call) → List Call → Option (List Call)
then_called None more = None
then_called (Some calls) more = Some (calls ++ more)

-- After some calls with an error of the kind `interrupted`, one more call had this outcome, which is not such an error.
-- Or there were 2^64 - 1 such calls, and the outcome is another error.
pub record Repeats {Kind : Type 0} (interrupted : Kind) (before now : Option (List (Result ℕ Kind)))
    (outcome : Result ℕ Kind) : Type 0 where
  pub interruptions : ℕ
  pub last : List (Result ℕ Kind)
  pub calls : now ≡ then_called before (replicate interruptions (Err interrupted) ++ last)
  pub final : IfErr outcome (λ kind. kind ≢ interrupted)
  pub ends : (last ≡ outcome ∷ []) ⊎ ((last ≡ []) × (interruptions ≡ 2 ^ 64 - 1) × IsErr outcome)

-- A buffer is filled by the last call of a reader, or that call failed.
abbrev pub IsSame : {Kind Fault : Type 0} → (last : Result ℕ Kind) → (result : Result ℕ Fault) → Type 0
IsSame (Ok n) (Ok count) = count ≡ n
IsSame (Ok n) (Err fault) = ⊥
IsSame (Err kind) (Ok count) = ⊥
IsSame (Err kind) (Err fault) = Unit {0}

-- What an adapter returns after the last call of its reader: a fault for an error, else the bytes that fit.
abbrev pub IsRead : {Kind Fault : Type 0} → (asked : ℕ) → (last : Result ℕ Kind) → (result : Result ℕ Fault) → Type 0
IsRead asked (Ok n) (Ok given) = given ≡ min asked n
IsRead asked (Ok n) (Err fault) = ⊥
IsRead asked (Err kind) (Ok given) = ⊥
IsRead asked (Err kind) (Err fault) = Unit {0}

-- What an adapter returns after the last call of its writer. A write of no byte of a nonempty piece is a fault too.
abbrev pub IsWritten : {Kind Fault : Type 0} → (offered : ℕ) → (last : Result ℕ Kind) → (result : Result ℕ Fault)
    → Type 0
IsWritten offered (Ok n) (Ok accepted) = accepted ≡ n
IsWritten offered (Ok n) (Err fault) = (n ≡ 0) × (0 < offered)
IsWritten offered (Err kind) (Ok accepted) = ⊥
IsWritten offered (Err kind) (Err fault) = Unit {0}

-- An adapter called its reader or writer, again after each interruption, and returned what belongs to the last call.
pub record CallsAgain {Kind Fault : Type 0} (interrupted : Kind) (before now : Option (List (Result ℕ Kind)))
    (Belongs : Result ℕ Kind → Result ℕ Fault → Type 0) (result : Result ℕ Fault) : Type 0 where
  pub last : Result ℕ Kind
  pub repeats : Repeats interrupted before now last
  pub belongs : Belongs last result
