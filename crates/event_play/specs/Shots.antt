-- Each picture of a film is what `shot` writes for the events up to that picture (our own rule).
use Rattle.std.specs.Prelude.{◌≡◌, ℕ, Bool, false, List, [], ◌∷◌, ◌++◌, if◌then◌else◌}
use Rattle.gpu_capture.specs.declared.event.Event.{Event}
use Rattle.gpu_capture.specs.declared.event.Event.TheVariants as event
use Rattle.gpu_taps.specs.Tally.{Reading}
use Rattle.event_play.specs.Frames.{is_frame_trigger}
use Rattle.event_play.specs.Out.{out_bytes}
use Rattle.event_play.specs.Replay.{from_state}
use Rattle.event_play.specs.Splits.{alone, AreFaultless}
use Rattle.event_play.specs.Step.{Machine}
use Rattle.event_play.specs.declared.ending.Mode.TheVariants.{Shot, Frames}
use Rattle.event_play.specs.declared.ending.FrameTrigger.{FrameTrigger}
use Rattle.event_play.specs.declared.ending.FrameTrigger.TheVariants.{Flip, Mark}

-- whether a picture is written after an event
abbrev pub is_due : FrameTrigger → Event → Bool
is_due at (event.Gp1 word) = is_frame_trigger at word
is_due at other = false

-- what `shot` writes for events from a machine on, as if they were a whole capture; empty if no picture is shown
abbrev pub shot_of : Machine → (played : ℕ) → List Event → List ℕ
shot_of s played events = out_bytes Shot [] (alone (from_state s played) events)

-- for each event after `before` that has a picture, what `shot` writes for all events up to it
abbrev pub film : FrameTrigger → Machine → (played : ℕ) → (before events : List Event) → List ℕ
film at s played before [] = []
film at s played before (event ∷ events) =
    (if is_due at event then shot_of s played (before ++ event ∷ []) else [])
    ++ film at s played (before ++ event ∷ []) events

-- The output for events without a fault: for flips their film, and then what `shot` writes for all of them; for marks
-- their film alone.
pub record FramesAreShots : Type 0 where
  pub flips : (s : Machine) (played : ℕ) (events : List Event) (heard : List Reading)
      → AreFaultless (from_state s played) events
      → out_bytes (Frames Flip) heard (alone (from_state s played) events)
      ≡ film Flip s played [] events ++ shot_of s played events
  pub marks : (s : Machine) (played : ℕ) (events : List Event) (heard : List Reading)
      → AreFaultless (from_state s played) events
      → out_bytes (Frames Mark) heard (alone (from_state s played) events) ≡ film Mark s played [] events
