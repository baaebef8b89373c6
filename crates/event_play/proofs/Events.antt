-- Operations that are the steps of events.
use Rattle.std.proofs.Common.{◌≡◌, ◌≤◌, ℕ, ◌+◌, List, Option, None, Ok, Err, refl, ap, sym, subst, ◌∙◌, arith}
use Rattle.gpu_capture.specs.declared.event.Event.{Event}
use Rattle.gpu_core.specs.Kept.{kept_of}
use Rattle.gpu_core.specs.Machine.{State}
use Rattle.event_play.specs.Does.{Does}
use Rattle.event_play.specs.Fed.{fed_notes}
use Rattle.event_play.specs.Feeding.{in_event, looks_in}
use Rattle.event_play.specs.RigState.{RigState, Stands, machine_of}
use Rattle.event_play.specs.Step.{Machine, Stepped, asked_words, event_step, event_cost, event_words, done}
use Rattle.event_play.specs.Stepping.{HasStepped, numbered}
use Rattle.event_play.specs.Streams.{Outlets}
use Rattle.event_play.specs.Changes.{event_changes}
use Rattle.event_play.specs.Operation.{operation_of}
use Rattle.event_play.specs.declared.ending.Mode.{Mode}
use Rattle.event_play.specs.declared.fault.EventFault.{EventFault}
use Rattle.event_play.specs.declared.operation.Operation.{Operation}
use Rattle.event_play.specs.declared.operation.Operation.TheVariants as operation
use Rattle.event_play.specs.PlayState.{play_state}

-- A machine that agrees with a rig is the rig's machine with its own GPU state.
pub stands_is : (rig : RigState) (s : Machine) → Stands rig s → machine_of rig s.gpu ≡ s
stands_is rig s stands =
    let with_ram : List ℕ → Machine = λ ram. record { gpu = s.gpu; ram = ram; running = rig.running } in
    ap with_ram (sym stands.ram) ∙ ap (λ running. record { gpu = s.gpu; ram = s.ram; running = running })
    (sym stands.running)

pub step_fault : (rig : RigState) (s : Machine) (number : ℕ) (event : Event) (fault : EventFault) → Stands rig s
    → Err fault ≡ operation_of rig.ram rig.running event → event_step s number event ≡ Err fault
unfolding event_step
step_fault rig s number event fault stands asked = rw (stands.ram, stands.running, ← asked) refl

-- An operation has the notes of the words that it feeds.
pub notes_are : (s : Machine) (number : ℕ) (asked : Operation)
    → (done s number asked).notes ≡ fed_notes s.gpu number (asked_words s.ram (Ok asked))
notes_are s number operation.Nothing = refl
notes_are s number (operation.Put address word) = refl
notes_are s number (operation.Feed asked next) = refl
notes_are s number (operation.Take block next) = refl
notes_are s number (operation.Control word) = refl
notes_are s number operation.Read = refl
notes_are s number operation.Skip = refl
notes_are s number operation.Stat = refl
notes_are s number (operation.Clear madr n) = refl
notes_are s number (operation.Begin next) = refl

-- An event was played with `at` store steps; the other steps are those of the lines of its words.
pub record HasDone (mode : Option Mode) (s : Machine) (number : ℕ) (event : Event) (shown : Option ℕ)
    (before now : Outlets) (rig : RigState) : Type 0 where
  pub at : ℕ
  pub step : HasStepped s (numbered number event) shown before (play_state (record now { steps = at }) rig)
  pub asked_notes : step.notes ≡ fed_notes s.gpu number (event_words s event)
  pub spent : now.steps ≤ at + looks_in mode (event_changes s number event)

-- Without lines, all store steps are those of the event.
pub only_stepped : (s : Machine) (number : ℕ) (event : Event) (shown : Option ℕ) (before now : Outlets)
    (rig : RigState)
    → HasDone None s number event shown before now rig
    → HasStepped s (numbered number event) shown before (play_state now rig)
only_stepped s number event shown before now rig did = record {
  machine = did.step.machine;
  notes = did.step.notes;
  is = did.step.is;
  stands = did.step.stands;
  heard = did.step.heard;
  cost = let c = did.step.cost in let spent = did.spent in omega (arith, c, spent);
}

module _ (mode : Option Mode) (was mid rig : RigState) (number counted : ℕ) (event : Event) (asked : Operation)
    (shown : Option ℕ)
    (before now : Outlets)
    (is : Ok asked ≡ operation_of was.ram was.running event) (same : mid ≡ rig)
    (does : (s : State) → kept_of s ≡ was.gpu → (shown ≡ (done (machine_of was s) number asked).shown)
    × Does (in_event number mode) (machine_of was s) asked before (play_state now rig)) where
  pub has_done : (s : Machine) → Stands was s → HasDone mode s number event shown before now
      (record mid { played = counted })
  unfolding event_step event_cost
  has_done s stands =
      let counts : RigState = record mid { played = counted } in
      let did = (does s.gpu stands.gpu).1 in
      let shows = (does s.gpu stands.gpu).0 in
      let m : Machine = machine_of was s.gpu in
      let after : Stepped = done m number asked in
      let at_rig : HasDone mode m number event shown before now counts = record {
        at = before.steps + event_cost m event;
        step = record {
          machine = after.machine;
          notes = after.notes;
          is = rw (← is) (ap (λ x. Ok (record { machine = after.machine; shown = x; notes = after.notes }))
              (sym shows));
          stands = rw same (record { gpu = did.stands.gpu; ram = did.stands.ram; running = did.stands.running });
          heard = did.heard;
          cost = omega arith;
        };
        asked_notes = rw (← is) (notes_are m number asked);
        spent = rw (← is) (let c = did.cost in omega (arith, c));
      } in
      let P : Machine → Type 0 = λ s. HasDone mode s number event shown before now counts in
      subst P (stands_is was s stands) at_rig
