-- What a run does that writes a flat capture. If the source does not state its bytes, only the ending is described.
use Rattle.std.specs.Prelude.{◌≡◌, ◌≤◌, ◌<◌, ◌⊎◌, ℕ, List, IfSome, Some, length}
use Rattle.dev_io.specs.Device.{appended}
use Rattle.gpu_capture.specs.Capture.{Captured, capture, limit}
use Rattle.gpu_taps.specs.Tally.{Reading}
use Rattle.event_play.specs.Replay.{raised}
use Rattle.event_play.specs.RigState.{RigState}
use Rattle.event_play.specs.declared.ending.Ending.TheVariants.{Done}
use Rattle.capture_flat.specs.Flat.{flat_replay}
use Rattle.capture_flat.specs.Out.{flat_file, flat_version}
use Rattle.capture_flat.specs.Passing.{EndsFlat, IsEnding}
use Rattle.event_play.specs.Alike.{IsFlatCapture}
use Rattle.capture_flat.specs.declared.ending.FlatEnding.{FlatEnding}
use Rattle.psxgpu_tool.specs.First.{first, play_of, seen}
use Rattle.psxgpu_tool.specs.Line.{flat_status, flat_text, status_of}
use Rattle.psxgpu_tool.specs.Outside.{Outside, Says, HasFailed, HasFailedToRead}

-- the flat capture of a capture: of its events, up to the first fault
abbrev pub flat_of : Captured → List ℕ
flat_of captured = flat_file (raised first captured.version) captured.version captured.events

-- status 0: the capture is complete and the bytes after its End remain. Its flat capture was written. Whatever follows
-- that, it replays to the same words shown, the same status word and the same video memory.
pub record FlatWhole (bytes : List ℕ) (before now : Outside) : Type 0 where
  pub ending : (play_of bytes).ending ≡ Done
  pub left : now.source.left ≡ Some (play_of bytes).rest
  pub held : now.out.held ≡ appended before.out.held (flat_of (capture bytes))
  pub fits : length (flat_of (capture bytes)) ≤ limit
  pub is_flat : IsFlatCapture first (play_of bytes).replay (flat_version (capture bytes).version)
      (flat_replay (raised first (capture bytes).version) (capture bytes).events) (flat_of (capture bytes))

-- the status given the capture alone: refused if its flat capture would be too long, else that of playing it
pub record EndsAsFlat (bytes : List ℕ) (status : ℕ) : Type 0 where
  pub long : limit < length (flat_of (capture bytes)) → status ≡ 2
  pub fits : length (flat_of (capture bytes)) ≤ limit → status ≡ status_of (play_of bytes).ending

-- any status: the ending of the flat capture, starting with a new machine, what was written before it, the notes of the
-- taps and the steps; `err` receives the line of the ending and, after a refusal, the last items of the taps
pub record FlatEnds (heard : List Reading) (before now : Outside) (status : ℕ) : Type 0 where
  pub ending : FlatEnding
  pub rig : RigState
  pub told : List Reading
  pub ends : EndsFlat first (seen heard before) (seen told now) rig ending
  pub known : IsEnding ending
  pub status_is : status ≡ flat_status ending
  pub says : Says before.err now.err (flat_text ending told)

-- what a run does that writes a flat capture; with status 5 it only reports that memory ran out
pub record FlatRun (heard : List Reading) (before now : Outside) (status : ℕ) : Type 0 where
  pub ends : (status ≡ 5) ⊎ FlatEnds heard before now status
  pub whole : status ≡ 0 → IfSome before.source.left (λ bytes. FlatWhole bytes before now)
  pub starved : status ≡ 3 → HasFailedToRead before.source now.source
  pub cut : status ≡ 4 → HasFailed before.out now.out
  -- if nothing failed, the capture alone decides the status, or memory ran out
  pub complete : (HasFailedToRead before.source now.source → ⊥) → (HasFailed before.out now.out → ⊥)
      → (status ≡ 5) ⊎ IfSome before.source.left (λ bytes. EndsAsFlat bytes status)
