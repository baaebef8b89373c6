-- A new machine plays bytes from its first state.
use Rattle.std.proofs.Common.{◌≡◌, ◌∙◌, ℕ, List, [], Some, length, refl, subst, arith}
use Rattle.dev_io.specs.Device.{Rose, SinkSide}
use Rattle.dev_io.specs.Memory.{SinkState}
use Rattle.event_play.specs.Replay.{from_state}
use Rattle.event_play.specs.RigState.{Stands, first_rig}
use Rattle.event_play.specs.Step.{Machine, first_machine}
use Rattle.event_play.specs.Streams.{Streams, streams}
use Rattle.event_play.specs.declared.ending.Mode.{Mode}
use Rattle.gpu_snapshot.specs.PlayAny.{AnyMayReadFault, AnyMayWriteFault, EndsAny}
use Rattle.gpu_snapshot.specs.declared.ending.AnyEnding.{AnyEnding}
use Rattle.gpu_taps.specs.Tally.{Reading}
use Rattle.psxgpu_c.specs.Room.{Accepted, FailsWhereFull, room_and_bytes}
use Rattle.psxgpu_c.specs.Whole.{PlaysSink, PlaysTo, at_end, new_taps}
use Rattle.psxgpu_c.specs.declared.ended.Ended.{Ended}
use Rattle.psxgpu_c.proofs.LentRoom.{ends_told}
use Rattle.psxgpu_c.proofs.RoomLemmas.{empty_sink, full_where_failed}

first_stands : Stands first_rig first_machine
unfolding first_machine
first_stands = record { gpu = refl; ram = refl; running = refl }

-- what never fails has not failed
pub never_rose : Rose 0 0 → ⊥
never_rose rose = omega (arith, rose)

pub plays_sink : (m : Mode) (source capture left : List ℕ) (before now : SinkSide) (heard heard_now : List Reading)
    (steps steps_now : ℕ) (end : AnyEnding) → source ≡ capture
    → ((s : Machine) → Stands first_rig s
    → EndsAny m (from_state s 0) (streams (Some source) before.held heard steps)
    (streams (Some left) now.held heard_now steps_now) end)
    → (AnyMayReadFault end → Rose 0 0) → (AnyMayWriteFault end → Rose before.faults now.faults)
    → PlaysSink m heard capture before now end
plays_sink m source capture left before now heard heard_now steps steps_now end source_is ends read_cause write_cause =
    let after : Streams = streams (Some left) now.held heard_now steps_now in
    let Of : List ℕ → Type 0 = λ xs.
    EndsAny m (from_state first_machine 0) (streams (Some xs) before.held heard steps) after end in
    record {
      left = left;
      heard = heard_now;
      steps = steps;
      steps_now = steps_now;
      ends = subst Of source_is (ends first_machine first_stands);
      never_fails = λ reads. never_rose (read_cause reads);
      cause = write_cause;
    }

-- a sink without a capacity, as its owner sees it
abbrev pub accepting : Accepted → SinkSide
accepting s = record { held = Some s.held; faults = s.faults }

pub plays_accepted : (m : Mode) (capture : List ℕ) (Full : List ℕ → Type 0)
    (before now : Accepted) (end : AnyEnding) (told : Ended) → before ≡ record { held = []; faults = 0 }
    → PlaysSink m new_taps capture (accepting before) (accepting now) end
    → (AnyMayWriteFault end → Rose 0 now.faults → Full now.held)
    → told ≡ record (at_end end) { written = length now.held }
    → PlaysTo m capture Full now.held told
plays_accepted m capture Full before now end told before_is p full is_told =
    let after : Streams = streams (Some p.left) (Some now.held) p.heard p.steps_now in
    let Of : Accepted → Type 0 = λ s.
    EndsAny m (from_state first_machine 0) (streams (Some capture) (Some s.held) new_taps p.steps) after end in
    let Cause : Accepted → Type 0 = λ s. Rose s.faults now.faults in
    record {
      end = end;
      left = p.left;
      heard = p.heard;
      steps = p.steps;
      steps_now = p.steps_now;
      ends = subst Of before_is p.ends;
      never_fails = p.never_fails;
      full = λ writes. full writes (subst Cause before_is (p.cause writes));
      is_told = is_told;
    }

-- a sink with a fixed capacity, as its owner sees it
abbrev pub lent : SinkState → SinkSide
lent s = record { held = room_and_bytes s; faults = s.faults }

pub plays_in_room : (m : Mode) (capture : List ℕ) (room : ℕ) (before now : SinkState)
    (end : AnyEnding) (told : Ended) → before ≡ empty_sink room
    → PlaysSink m new_taps capture (lent before) (lent now) end
    → FailsWhereFull now → told ≡ record (at_end end) { written = length now.held }
    → PlaysTo m capture (λ held. length held ≡ room) now.held told × (now.room ≡ room)
plays_in_room m capture room before now end told before_is p bounds is_told =
    let after : Streams = streams (Some p.left) (room_and_bytes now) p.heard p.steps_now in
    let Of : SinkState → Type 0 = λ s.
    EndsAny m (from_state first_machine 0) (streams (Some capture) (room_and_bytes s) new_taps p.steps) after end in
    let both = ends_told m (from_state first_machine 0) room now (Some capture) (Some p.left) new_taps p.heard p.steps
    p.steps_now end (subst Of before_is p.ends) in (
      record {
        end = end;
        left = p.left;
        heard = p.heard;
        steps = p.steps;
        steps_now = p.steps_now;
        ends = both.0;
        never_fails = p.never_fails;
        full = λ writes. full_where_failed now before.faults (p.cause writes) bounds ∙ both.1;
        is_told = is_told;
      },
      both.1,
    )
