-- A replay without dead packets, from the start of a capture.
use Rattle.std.proofs.Common.{◌≡◌, ◌%◌, ◌==◌, ◌-◌, ◌*◌, ℕ, List, [], Bool, true, false, cond, length, refl, sym, ap}
use Rattle.std.proofs.Common.{◌∙◌, arith}
use Rattle.std.proofs.lemmas.List.{length-append, length-replicate}
use Rattle.px_num.specs.Height.{tall_height}
use Rattle.px_num.specs.Zeros.{zeros}
use Rattle.gp0_words.specs.Items.{pending_behind}
use Rattle.gpu_capture.specs.declared.event.Event.{Event}
use Rattle.gpu_core.specs.Machine.{State, first_state, tall_state}
use Rattle.vram_store.specs.Vram.{blank, tall, rows_behind}
use Rattle.event_play.specs.Ports.{AreAtPorts}
use Rattle.event_play.specs.Replay.{from_state, tall_version}
use Rattle.event_play.specs.Step.{Machine, first_machine, tall_machine}
use Rattle.event_play.specs.Alike.{replay_of}
use Rattle.event_play.specs.declared.ending.Ending.TheVariants.{Done}
use Rattle.dead_drawing.specs.Control.{first_control}
use Rattle.dead_drawing.specs.Laws.{SlimReplaysAlike, height_for, machine_for}
use Rattle.dead_drawing.specs.Slim.{slim_events, slim_from}
use Rattle.dead_drawing.proofs.Replays.{Outcome, outcome_of, alike_by, replay_is}
use Rattle.dead_drawing.proofs.SlimLaw.{slim_ports, slim_seen}
use Rattle.dead_drawing.proofs.Tracks.{Tracks}

-- a state at the start of a capture: it agrees with the control after a reset, and has whole rows
pub record Starts (height : ℕ) (s : State) : Type 0 where
  pub tracks : Tracks (first_control height) s
  pub rows : length s.parts.m % 1024 ≡ 0

zeros_long : (n : ℕ) → length (zeros n) ≡ n
unfolding zeros
zeros_long n = length-replicate n 0

blank_long : length blank ≡ 524288
unfolding blank
blank_long = zeros_long 524288

first_starts : Starts 512 first_machine.gpu
unfolding first_machine first_state pending_behind
first_starts = record {
  tracks = record { regs = refl; pending = refl };
  rows = ap (λ (n : ℕ). n % 1024) blank_long;
}

-- Whole rows followed by rows of zeros are whole rows.
tall_rows : (m : List ℕ) → length m % 1024 ≡ 0 → length (tall m) % 1024 ≡ 0
unfolding tall
tall_rows m rows =
    let more : length (rows_behind tall_height m) ≡ 1024 * tall_height - length m = zeros_long
    (1024 * tall_height - length m) in
    omega (arith, rows, more, length-append m (rows_behind tall_height m))

starts : (is_tall : Bool)
    → Starts (cond is_tall tall_height 512) (cond is_tall (tall_machine first_machine) first_machine).gpu
unfolding first_machine first_state tall_state pending_behind
starts true = record {
  tracks = record { regs = refl; pending = refl };
  rows = tall_rows blank
      (ap (λ (n : ℕ). n % 1024) blank_long);
}
starts false = first_starts

-- from a machine at the start of a capture
slim_from_start : (height : ℕ) (machine : Machine) (events : List Event) → Starts height machine.gpu
    → AreAtPorts events
    → outcome_of (replay_of machine (slim_events height events)) ≡ outcome_of (replay_of machine events)
unfolding slim_events
slim_from_start height machine events at ports =
    let t = from_state machine 0 in
    replay_is (slim_from events (first_control height) 0) t (slim_ports events (first_control height) 0 ports)
    ∙ slim_seen (length events) events (first_control height) machine.gpu [] (omega arith) at.tracks at.rows
    ∙ sym (replay_is events t ports)

pub slim_law : SlimReplaysAlike
slim_law version events ports =
    let machine = machine_for version in
    let height = height_for version in
    let same = slim_from_start height machine events (starts (version == tall_version)) ports in
    let whole : (replay_of machine events).ending ≡ Done =
    ap (λ (o : Outcome). o.ending) (replay_is events (from_state machine 0) ports) in (
      ap (λ (o : Outcome). o.ending) same ∙ whole,
      whole,
      alike_by (replay_of machine (slim_events height events)) (replay_of machine events) same,
    )
