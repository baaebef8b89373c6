-- Operations that feed no word.
use Rattle.std.proofs.Common.{◌≡◌, ◌≤◌, ℕ, ◌+◌, List, [], Option, Ok, inr, refl, ap, sym, ◌∙◌, arith}
use Rattle.gpu_core.specs.Kept.{kept_of}
use Rattle.gpu_core.specs.Machine.{State}
use Rattle.event_play.specs.Does.{Performs, PutsOperation}
use Rattle.event_play.specs.Fed.{fed_notes}
use Rattle.event_play.specs.Feeding.{fed_lines, in_event}
use Rattle.event_play.specs.RigState.{RigState, Stands, machine_of}
use Rattle.event_play.specs.PlayState.{play_state}
use Rattle.event_play.specs.Step.{Machine, asked_words, done, operation_cost}
use Rattle.event_play.specs.Streams.{Outlets, sink_of}
use Rattle.event_play.specs.Told.{told_notes}
use Rattle.event_play.specs.Operation.{FeedsNoWord}
use Rattle.event_play.specs.declared.ending.Mode.{Mode}
use Rattle.event_play.specs.declared.operation.Operation.{Operation}
use Rattle.event_play.specs.declared.operation.Operation.TheVariants as operation
use Rattle.event_play.proofs.Events.{notes_are}
use Rattle.event_play.proofs.Grows.{lines_in-none}
use Rattle.event_play.proofs.Putting.{puts_none}

no_words : (ram : List ℕ) (asked : Operation) → FeedsNoWord asked → asked_words ram (Ok asked) ≡ []
no_words ram operation.Nothing quiet = refl
no_words ram (operation.Put address word) quiet = refl
no_words ram (operation.Feed asked next) quiet = absurd quiet
no_words ram (operation.Take block next) quiet = refl
no_words ram (operation.Control word) quiet = refl
no_words ram operation.Read quiet = refl
no_words ram operation.Skip quiet = refl
no_words ram operation.Stat quiet = refl
no_words ram (operation.Clear madr n) quiet = refl
no_words ram (operation.Begin next) quiet = refl

no_notes : (s : Machine) (number : ℕ) (asked : Operation) → FeedsNoWord asked → (done s number asked).notes ≡ []
no_notes s number asked quiet =
    notes_are s number asked ∙ ap (fed_notes s.gpu number) (no_words s.ram asked quiet)

module _ (mode : Option Mode) (number : ℕ) (asked : Operation) (was rig : RigState) (before now : Outlets)
    (shown : Option ℕ) (quiet : FeedsNoWord asked) (held : now.held ≡ before.held) (faults : now.faults ≡ before.faults)
    (buffered : now.buffered ≡ before.buffered) where
  -- it is performed whole
  pub quiet_performs : now.heard ≡ before.heard
      → ((s : State) (number : ℕ) → kept_of s ≡ was.gpu → shown ≡ (done (machine_of was s) number asked).shown)
      → ((s : State) (number : ℕ) → kept_of s ≡ was.gpu → Stands rig (done (machine_of was s) number asked).machine)
      → ((s : State) → kept_of s ≡ was.gpu → now.steps ≤ before.steps + operation_cost (machine_of was s) asked)
      → rig.played ≡ was.played
      → Performs (in_event number mode) asked (play_state before was) (play_state now rig) (Ok shown)
  quiet_performs heard shows stands cost played = record {
    ok = λ s is. (
      shows s number is,
      record {
        stands = stands s number is;
        heard = heard ∙ sym (ap (λ notes. told_notes notes before.heard)
            (no_notes (machine_of was s) number asked quiet));
        cost = let c = cost s is in omega (arith, c);
      },
    );
    failed = λ s is. tt;
    kept = inr buffered;
    buffers = tt;
    played = played;
    cause = tt;
    faults = omega (arith, faults);
  }

  -- and nothing is put for it
  pub quiet_puts : PutsOperation (in_event number mode) asked (play_state before was) (play_state now rig) (Ok shown)
  quiet_puts = λ s is.
      let m : Machine = machine_of was s in
      puts_none number (fed_lines mode m.gpu number (asked_words m.ram (Ok asked))) (sink_of before) (sink_of now)
      shown (ap (fed_lines mode m.gpu number) (no_words m.ram asked quiet) ∙ lines_in-none mode) held faults buffered
