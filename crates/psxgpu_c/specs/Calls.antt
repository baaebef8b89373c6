-- What the calls of C do to a machine.
use Rattle.std.specs.Prelude.{◌≡◌, ◌⊎◌, ℕ, List, Option, Some, None, Result, Ok, Err}
use Rattle.gpu_capture.specs.declared.event.Event.{Event}
use Rattle.event_play.specs.PlayedWords.{after_words}
use Rattle.event_play.specs.Replay.{from_state, next_number}
use Rattle.event_play.specs.RigState.{RigState, Stands, StandsFor, first_rig}
use Rattle.event_play.specs.Step.{Machine, Stepped, event_step, tall_machine}
use Rattle.event_play.specs.declared.fault.EventFault.{EventFault}
use Rattle.psxgpu_c.specs.Codes.{code_for}
use Rattle.psxgpu_c.specs.declared.refusal.Refusal.{Refusal}
use Rattle.psxgpu_c.specs.declared.refusal.Refusal.TheVariants as refusal

-- A relation between the machine in a handle before a call and after it. An empty handle stays empty, and `Closed`
-- holds.
abbrev pub WhereHeld : (before now : Option RigState) → (RigState → RigState → Type 0) → (Closed : Type 0) → Type 0
WhereHeld (Some was) (Some rig) Does Closed = Does was rig
WhereHeld (Some was) None Does Closed = ⊥
WhereHeld None now Does Closed = (now ≡ None) × Closed

-- A call changes the machine in a handle and returns a code, as this relation states. An empty handle is refused.
abbrev pub Changes : (before now : Option RigState) → (code : ℕ) → (RigState → RigState → (code : ℕ) → Type 0) → Type 0
Changes before now code Does = WhereHeld before now (λ was rig. Does was rig code) (code ≡ code_for refusal.Closed)

-- ---- words of GP0

-- these words were fed, one event per word
abbrev pub Takes : (words : List ℕ) → RigState → RigState → (code : ℕ) → Type 0
Takes words was rig code =
    (code ≡ 0) × ((s : Machine) → Stands was s → StandsFor rig (after_words (from_state s was.played) words))

-- ---- events

-- An event was played, and `Says` holds of the word that it shows, if any. Or it has a fault: nothing changed, and
-- `Says` holds of the refusal.
abbrev pub Outcome : (was rig : RigState) → (Says : Result (Option ℕ) Refusal → Type 0)
    → Result Stepped EventFault → Type 0
Outcome was rig Says (Ok after) =
    Says (Ok after.shown) × Stands rig after.machine × (rig.played ≡ next_number was.played)
Outcome was rig Says (Err fault) = Says (Err (refusal.Faulted (next_number was.played) fault)) × (rig ≡ was)

-- the same for every machine that the rig represented
abbrev pub HasPlayed : (was rig : RigState) → Event → (Says : Result (Option ℕ) Refusal → Type 0) → Type 0
HasPlayed was rig event Says =
    (s : Machine) → Stands was s → Outcome was rig Says (event_step s (next_number was.played) event)

-- the same for a handle
abbrev pub Plays : (before now : Option RigState) → Event → (Says : Result (Option ℕ) Refusal → Type 0) → Type 0
Plays before now event Says = WhereHeld before now (λ was rig. HasPlayed was rig event Says) (Says (Err refusal.Closed))

-- the word that is shown, if any, else the word that was there
abbrev pub word_shown : (before : ℕ) → Result (Option ℕ) Refusal → ℕ
word_shown before (Ok (Some word)) = word
word_shown before (Ok None) = before
word_shown before (Err why) = before

-- ---- creating and resetting a machine

-- an empty handle received a machine in its first state, or memory ran out
abbrev pub Makes : (before now : Option RigState) → (code : ℕ) → Type 0
Makes None (Some rig) code = (code ≡ 0) × (rig ≡ first_rig)
Makes None None code = code ≡ code_for refusal.NoMemory
Makes (Some was) now code = (code ≡ code_for refusal.Open) × (now ≡ Some was)

-- the machine is in its first state, or memory ran out and it is unchanged
abbrev pub Begins : RigState → RigState → (code : ℕ) → Type 0
Begins was rig code = ((code ≡ 0) × (rig ≡ first_rig)) ⊎ ((code ≡ code_for refusal.NoMemory) × (rig ≡ was))

-- video memory has 1024 rows, and no event was played
abbrev pub Grows : RigState → RigState → (code : ℕ) → Type 0
Grows was rig code =
    (code ≡ 0) × ((s : Machine) → Stands was s → Stands rig (tall_machine s)) × (rig.played ≡ was.played)
