-- What two replays may have in common (our own rule).
use Rattle.std.specs.Prelude.{◌≡◌, ◌++◌, ℕ, List, []}
use Rattle.gpu_capture.specs.Capture.{capture}
use Rattle.gpu_capture.specs.declared.event.Event.{Event}
use Rattle.gpu_capture.specs.declared.event.Stop.TheVariants.{End}
use Rattle.gpu_core.specs.Machine.{status_word}
use Rattle.event_play.specs.Ports.{AreAtPorts}
use Rattle.event_play.specs.Replay.{Replay, Played, played_capture, played_events, from_state}
use Rattle.event_play.specs.Step.{Machine}
use Rattle.event_play.specs.declared.ending.Ending.TheVariants.{Done as PlayedWhole}

-- Two replays showed the same words, and lead to the same status word and the same video memory.
pub record AreAlike (a b : Replay) : Type 0 where
  pub shown : a.shown ≡ b.shown
  pub status : status_word a.state.gpu ≡ status_word b.state.gpu
  pub cells : a.state.gpu.parts.m ≡ b.state.gpu.parts.m

-- These bytes are a capture of the events `flat`, which use only the ports. Playing it, whatever follows, ends with
-- `Done`, shows the same words as `t`, and leads to the same status word and the same video memory.
pub record IsFlatCapture (first t : Replay) (version : ℕ) (flat : List Event) (bytes : List ℕ) : Type 0 where
  pub ports : AreAtPorts flat
  pub reads : (after : List ℕ)
      → capture (bytes ++ after) ≡ record { version = version; events = flat; ending = End; rest = after }
  pub whole : (after : List ℕ) → (played_capture first (bytes ++ after)).ending ≡ PlayedWhole
  pub alike : (after : List ℕ) → AreAlike (played_capture first (bytes ++ after)).replay t

-- events replayed from a machine as if they were a whole capture
abbrev pub replay_of : Machine → List Event → Played
replay_of s events = played_events (from_state s 0) events End []
