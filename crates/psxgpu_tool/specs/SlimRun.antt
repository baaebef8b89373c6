-- What a run does that writes a capture without its dead drawing. If the source does not state its bytes, only the
-- ending is described.
use Rattle.std.specs.Prelude.{◌≡◌, ◌≤◌, ◌<◌, ◌⊎◌, ℕ, List, IfSome, Some, length}
use Rattle.dev_io.specs.Device.{appended}
use Rattle.gpu_capture.specs.Capture.{Captured, capture, limit}
use Rattle.gpu_capture.specs.declared.event.Stop.{Stop}
use Rattle.gpu_capture.specs.declared.event.Stop.TheVariants.{End}
use Rattle.gpu_taps.specs.Tally.{Reading}
use Rattle.event_play.specs.Ports.{AreAtPorts}
use Rattle.dead_drawing.specs.Laws.{height_for}
use Rattle.dead_drawing.specs.Slim.{slim_events}
use Rattle.event_play.specs.Alike.{IsFlatCapture}
use Rattle.capture_slim.specs.Passing.{EndsSlim, IsEnding, slim_file, streams}
use Rattle.capture_slim.specs.declared.ending.SlimEnding.{SlimEnding}
use Rattle.psxgpu_tool.specs.First.{first, play_of}
use Rattle.psxgpu_tool.specs.Line.{slim_status, slim_text}
use Rattle.psxgpu_tool.specs.Outside.{Outside, Says, HasFailed, HasFailedToRead}

-- a capture of port events without its dead drawing, in the same version
abbrev pub slim_of : Captured → List ℕ
slim_of captured = slim_file captured.version captured.events

-- status 0: the capture is complete and has only port events, and the bytes after its End remain. It was written
-- without its dead drawing: a capture of the same version, read as the events that stay, with End. Whatever follows
-- that, it replays to the same words shown, the same status word and the same video memory.
pub record SlimWhole (bytes : List ℕ) (before now : Outside) : Type 0 where
  pub ending : (capture bytes).ending ≡ End
  pub ports : AreAtPorts (capture bytes).events
  pub left : now.source.left ≡ Some (capture bytes).rest
  pub held : now.out.held ≡ appended before.out.held (slim_of (capture bytes))
  pub fits : length (slim_of (capture bytes)) ≤ limit
  pub is_slim : IsFlatCapture first (play_of bytes).replay (capture bytes).version
      (slim_events (height_for (capture bytes).version) (capture bytes).events) (slim_of (capture bytes))

-- the exit status of a capture with this ending
abbrev pub stop_status : Stop → ℕ
stop_status End = 0
stop_status other = 2

-- the status given the capture alone: it is refused if an event is not at the ports, or if it would be too long without
-- its dead drawing; else it ends as it is read
pub record EndsAsSlim (captured : Captured) (status : ℕ) : Type 0 where
  pub refused : (AreAtPorts captured.events → ⊥) → status ≡ 2
  pub long : limit < length (slim_of captured) → status ≡ 2
  pub fits : AreAtPorts captured.events → length (slim_of captured) ≤ limit → status ≡ stop_status captured.ending

-- any status: the ending, and what was written before it. No tap receives a note. `err` receives the line of the ending
-- and, after a refusal, the last items of the taps as they were before.
pub record SlimEnds (heard : List Reading) (before now : Outside) (status : ℕ) : Type 0 where
  pub ending : SlimEnding
  pub ends : EndsSlim (streams before.source.left before.source.faults before.out.held)
      (streams now.source.left now.source.faults now.out.held) ending
  pub known : IsEnding ending
  pub status_is : status ≡ slim_status ending
  pub says : Says before.err now.err (slim_text ending heard)
  -- if nothing failed, the capture alone decides the status
  pub complete : (HasFailedToRead before.source now.source → ⊥) → (HasFailed before.out now.out → ⊥)
      → IfSome before.source.left (λ bytes. EndsAsSlim (capture bytes) status)

-- what a run does that writes a capture without its dead drawing; with status 5 it only reports that memory ran out
pub record SlimRun (heard : List Reading) (before now : Outside) (status : ℕ) : Type 0 where
  pub ends : (status ≡ 5) ⊎ SlimEnds heard before now status
  pub whole : status ≡ 0 → IfSome before.source.left (λ bytes. SlimWhole bytes before now)
  pub starved : status ≡ 3 → HasFailedToRead before.source now.source
  pub cut : status ≡ 4 → HasFailed before.out now.out
  pub free : now.steps ≡ before.steps
