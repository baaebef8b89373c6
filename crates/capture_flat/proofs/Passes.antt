-- One event that is played and written.
use Rattle.std.proofs.Common.{◌≡◌, ◌<◌, ◌≤◌, ◌+◌, ◌++◌, ℕ, List, Option, Result, Ok, Err, length, refl, ap, sym, ◌∙◌}
use Rattle.gathered_out.specs.Pieces.{piece}
use Rattle.gathered_out.specs.Puts.{BreaksPut, Holding, IsPut}
use Rattle.gpu_capture.specs.Capture.{limit}
use Rattle.gpu_capture.specs.Written.{AllowsAll}
use Rattle.gpu_capture.specs.declared.event.Event.{Event}
use Rattle.event_play.specs.Ends.{FaultsEvent, next_event}
use Rattle.event_play.specs.Replay.{Replay, next_number}
use Rattle.event_play.specs.RigState.{RigState, Stands, StandsFor}
use Rattle.event_play.specs.Step.{Machine, Stepped, event_step, stepped, done}
use Rattle.event_play.specs.Stepping.{HasStepped, numbered}
use Rattle.event_play.specs.Streams.{Outlets, without_sink}
use Rattle.event_play.specs.Operation.{operation_of}
use Rattle.event_play.specs.declared.fault.EventFault.{EventFault}
use Rattle.event_play.specs.declared.operation.Operation.{Operation}
use Rattle.event_play.specs.declared.operation.Operation.TheVariants as operation
use Rattle.capture_flat.specs.Flat.{flat_events, flat_operation, flat_asked}
use Rattle.capture_flat.specs.Out.{head_due, due_at}
use Rattle.gpu_capture.specs.Written.{spell}
use Rattle.capture_flat.specs.OneEvent.{PlaysFlat}
use Rattle.event_play.specs.PlayState.{play_state}

-- what an event asks of the machine, computed from a rig that agrees with it
asks : (rig : RigState) (s : Machine) (event : Event) (asked : Result Operation EventFault) → Stands rig s
    → asked ≡ operation_of rig.ram rig.running event
    → operation_of s.ram s.running event ≡ asked
asks rig s event asked stands is = rw (stands.ram, stands.running) (sym is)

step_is : (s : Machine) (number : ℕ) (event : Event) (asked : Result Operation EventFault)
    → operation_of s.ram s.running event ≡ asked
    → event_step s number event ≡ stepped s number asked
unfolding event_step
step_is s number event asked is = ap (stepped s number) is

pub faults_event : (t : Replay) (rig now : RigState) (event : Event) (fault : EventFault) (at : Outlets)
    → now ≡ rig → StandsFor rig t → Err fault ≡ operation_of rig.ram rig.running event
    → FaultsEvent (next_event t event) fault (play_state at rig) (play_state at now)
faults_event t rig now event fault at same stands is = record {
  is = step_is t.state (next_number t.played) event (Err fault) (asks rig t.state event (Err fault) stands.state is);
  stands = same;
  unchanged = refl;
}

-- A rig still agrees with the replay after it was asked for an event's operation.
pub stands_same : (t : Replay) (rig mid : RigState) → mid ≡ rig → StandsFor rig t → StandsFor mid t
stands_same t rig mid same stands = rw same stands

-- Main memory after an operation gives the same flat events.
same_flat : (s : Machine) (number : ℕ) (asked : Operation)
    → flat_operation (done s number asked).machine.ram asked ≡ flat_operation s.ram asked
same_flat s number operation.Nothing = refl
same_flat s number (operation.Put address word) = refl
same_flat s number (operation.Feed asked next) = refl
same_flat s number (operation.Take block next) = refl
same_flat s number (operation.Control word) = refl
same_flat s number operation.Read = refl
same_flat s number operation.Skip = refl
same_flat s number operation.Stat = refl
same_flat s number (operation.Clear madr n) = refl
same_flat s number (operation.Begin next) = refl

-- the flat events of an event, from main memory after it
flat_is : (t : Replay) (rig now : RigState) (event : Event) (asked : Operation) (shown : Option ℕ)
    (before following : Outlets)
    → StandsFor rig t → Ok asked ≡ operation_of rig.ram rig.running event
    → HasStepped t.state (numbered (next_number t.played) event) shown before (play_state following now)
    → flat_operation now.ram asked ≡ flat_events t.state event
unfolding flat_events
flat_is t rig now event asked shown before following stands is step =
    let s = t.state in
    let number = next_number t.played in
    let asks = asks rig s event (Ok asked) stands.state is in
    let after : Stepped = record { machine = step.machine; shown = shown; notes = step.notes } in
    let both : ◌≡◌ {A = Result Stepped EventFault} (Ok after) (Ok (done s number asked)) = sym step.is
    ∙ step_is s number event (Ok asked) asks in
    let machine : step.machine ≡ (done s number asked).machine = ap (λ (x : Stepped). x.machine)
    (let same : after ≡ done s number asked = cc in same) in
    let ram : now.ram ≡ (done s number asked).machine.ram = sym step.stands.ram ∙ ap (λ (m : Machine). m.ram) machine in
    ap (λ ram. flat_operation ram asked) ram ∙ same_flat s number asked ∙ ap (flat_asked s.ram) (sym asks)

pub plays_flat : (t : Replay) (rig mid now : RigState) (event : Event) (asked : Operation) (shown : Option ℕ)
    (before following : Outlets)
    (ram : List ℕ) → StandsFor rig t → mid ≡ rig → Ok asked ≡ operation_of rig.ram rig.running event
    → HasStepped t.state (numbered (next_number mid.played) event) shown
    (without_sink before.heard before.steps) (play_state (without_sink following.heard following.steps) now)
    → now.played ≡ next_number mid.played → ram ≡ now.ram → AllowsAll 2 (flat_operation ram asked)
    → PlaysFlat t event before following now
plays_flat t rig mid now event asked shown before following ram stands same is step played after allows =
    let counted : mid.played ≡ t.played = ap (λ (r : RigState). r.played) same ∙ sym stands.played in
    let stepped : HasStepped t.state (numbered (next_number t.played) event) shown before (play_state following now) =
    record {
      machine = step.machine;
      notes = step.notes;
      is = rw counted at step.is;
      stands = step.stands;
      heard = step.heard;
      cost = step.cost;
    } in
    let flat = flat_is t rig now event asked shown before following stands is stepped in
    record {
      shown = shown;
      step = stepped;
      played = rw counted at played;
      allowed = rw (after, flat) at allows;
    }

-- the output of an event, from the values that the code has
pub due_known : (version : ℕ) (t : Replay) (rig now : RigState) (event : Event) (asked : Operation)
    (before following : Outlets)
    (played : ℕ) (ram : List ℕ) → StandsFor rig t → Ok asked ≡ operation_of rig.ram rig.running event
    → PlaysFlat t event before following now → played ≡ rig.played → ram ≡ now.ram
    → head_due version played ++ spell (flat_operation ram asked) ≡ due_at version t event
due_known version t rig now event asked before following played ram stands is plays was after =
    let flat = flat_is t rig now event asked plays.shown before following stands is plays.step in
    rw (was, after, flat, ← stands.played) refl

-- the size of the file with these bytes
pub due_length : (size bytes : ℕ) (xs ys : List ℕ) → bytes ≡ length xs → xs ≡ ys → size + bytes ≡ size + length ys
due_length size bytes xs ys count same = rw (← same) (ap (λ n. size + n) count)

pub too_long : (size bytes : ℕ) (xs ys : List ℕ) → bytes ≡ length xs → xs ≡ ys → limit < size + bytes + 4
    → limit < size + length ys + 4
too_long size bytes xs ys count same long = rw (← same, ← count) long

pub not_long : (size bytes : ℕ) (xs ys : List ℕ) → bytes ≡ length xs → xs ≡ ys → size + bytes + 4 ≤ limit
    → size + length ys + 4 ≤ limit
not_long size bytes xs ys count same few = rw (← same, ← count) few

-- the same bytes under the same number
pub put_same : (n m : ℕ) (xs ys : List ℕ) (before now : Holding) → n ≡ m → xs ≡ ys
    → IsPut (piece n xs) before now → IsPut (piece m ys) before now
put_same n m xs ys before now number same put = rw (← number, ← same) put

pub breaks_same : (n m : ℕ) (xs ys : List ℕ) (before : Holding) (now : Option (List ℕ)) (lacking : ℕ) → n ≡ m
    → xs ≡ ys → BreaksPut (piece n xs) before now lacking → BreaksPut (piece m ys) before now lacking
breaks_same n m xs ys before now lacking number same put = rw (← number, ← same) put
