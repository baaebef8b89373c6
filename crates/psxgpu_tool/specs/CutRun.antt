-- What a run does that cuts a capture after its first n events. If the source does not state its bytes, only the ending
-- is described.
use Rattle.std.specs.Prelude.{◌≡◌, ◌≤◌, ◌+◌, ◌++◌, ◌⊎◌, ℕ, List, [], IfSome, Some, length, take, drop}
use Rattle.dev_io.specs.Device.{appended}
use Rattle.gpu_capture.specs.Capture.{Captured, capture, limit}
use Rattle.gpu_capture.specs.declared.event.Stop.TheVariants.{End}
use Rattle.gpu_taps.specs.Tally.{Reading}
use Rattle.picture_out.specs.Dump.{dump_cost}
use Rattle.event_play.specs.Out.{lines_of, out_bytes}
use Rattle.event_play.specs.Replay.{Played, played_events, Replay, raised}
use Rattle.event_play.specs.RigState.{RigState}
use Rattle.event_play.specs.Told.{told_notes}
use Rattle.event_play.specs.declared.ending.Ending.TheVariants.{Done}
use Rattle.event_play.specs.declared.ending.Mode.{Mode}
use Rattle.capture_cut.specs.Cut.{EndsCut, IsEnding, cut_at}
use Rattle.capture_cut.specs.File.{cut_file}
use Rattle.capture_cut.specs.declared.ending.CutEnding.{CutEnding}
use Rattle.gpu_snapshot.specs.CutFiles.{EndAlike}
use Rattle.psxgpu_tool.specs.First.{first, play_file, seen}
use Rattle.psxgpu_tool.specs.Line.{cut_status, cut_text}
use Rattle.psxgpu_tool.specs.Outside.{Outside, Says, HasFailed, HasFailedToRead}

-- the first n events of a capture, on a new machine
abbrev pub play_first : (n : ℕ) → Captured → Played
play_first n captured = played_events (raised first captured.version) (take n captured.events) End []

-- the state after them, the records of the others, and an End record
abbrev pub cut_of : (n : ℕ) → Captured → List ℕ
cut_of n captured = cut_file (play_first n captured).replay (drop n captured.events)

-- a capture can be cut: it is complete and has at least n events, none of the first n has a fault, and the file is not
-- too long
pub record IsCuttable (n : ℕ) (captured : Captured) : Type 0 where
  pub ending : captured.ending ≡ End
  pub many : n ≤ length captured.events
  pub fine : (play_first n captured).ending ≡ Done
  pub fits : length (cut_of n captured) ≤ limit

-- the steps are at most `cost` and those of reading all cells once
abbrev pub IsWithin : (cost : ℕ) → Replay → (before now : Outside) → Type 0
IsWithin cost t before now = now.steps ≤ before.steps + cost + dump_cost t.state.gpu.parts.m

-- the whole capture, if the bytes `rest` follow it
abbrev pub play_whole : Captured → (rest : List ℕ) → Played
play_whole captured rest = played_events (raised first captured.version) captured.events captured.ending rest

-- A file continues the capture that was cut, whatever bytes follow it. The output of the whole capture is that of the
-- state `was` followed by that of the file, for taps that received the notes of the first events. Both end alike.
pub record GoesOnAs (was : Replay) (whole file : (rest : List ℕ) → Played) : Type 0 where
  pub writes : (mode : Mode) (heard : List Reading) (rest : List ℕ)
      → out_bytes mode heard (whole rest) ≡ lines_of mode was ++ out_bytes mode (told_notes was.notes heard) (file rest)
  pub ends : (rest : List ℕ) → EndAlike (file rest) (whole rest)

-- the file of the cut capture, if the bytes `rest` follow it
abbrev pub play_cut : (n : ℕ) → Captured → (rest : List ℕ) → Played
play_cut n captured rest = play_file (cut_of n captured ++ rest)

-- status 0: the capture can be cut and was cut, the bytes after its End remain, and the file continues it
pub record CutWhole (n : ℕ) (bytes : List ℕ) (before now : Outside) : Type 0 where
  pub cuttable : IsCuttable n (capture bytes)
  pub left : now.source.left ≡ Some (capture bytes).rest
  pub held : now.out.held ≡ appended before.out.held (cut_of n (capture bytes))
  pub goes_on : GoesOnAs (play_first n (capture bytes)).replay (play_whole (capture bytes)) (play_cut n (capture bytes))
  pub cost : IsWithin (play_first n (capture bytes)).replay.cost (play_first n (capture bytes)).replay before now
  pub box_cost : IsWithin (play_first n (capture bytes)).replay.box_cost
      (play_first n (capture bytes)).replay before now

-- the status given the capture alone: it is cut, or refused because it cannot be cut
abbrev pub EndsAsCut : (n : ℕ) → Captured → (status : ℕ) → Type 0
EndsAsCut n captured status =
    ((status ≡ 0) × IsCuttable n captured) ⊎ ((status ≡ 2) × (IsCuttable n captured → ⊥))

-- any status: the ending, starting with a new machine, what was written before it, the notes of the taps and the steps;
-- `err` receives the line of the ending and, after a refusal, the last items of the taps
pub record CutEnds (n : ℕ) (heard : List Reading) (before now : Outside) (status : ℕ) : Type 0 where
  pub ending : CutEnding
  pub rig : RigState
  pub told : List Reading
  pub ends : EndsCut (cut_at n first) (seen heard before) (seen told now) rig ending
  pub known : IsEnding ending
  pub status_is : status ≡ cut_status ending
  pub says : Says before.err now.err (cut_text ending told)

-- what a run does that cuts a capture; with status 5 it only reports that memory ran out
pub record CutRun (n : ℕ) (heard : List Reading) (before now : Outside) (status : ℕ) : Type 0 where
  pub ends : (status ≡ 5) ⊎ CutEnds n heard before now status
  pub whole : status ≡ 0 → IfSome before.source.left (λ bytes. CutWhole n bytes before now)
  pub starved : status ≡ 3 → HasFailedToRead before.source now.source
  pub cut : status ≡ 4 → HasFailed before.out now.out
  -- if nothing failed, the capture alone decides the status, or memory ran out
  pub complete : (HasFailedToRead before.source now.source → ⊥) → (HasFailed before.out now.out → ⊥)
      → (status ≡ 5) ⊎ IfSome before.source.left (λ bytes. EndsAsCut n (capture bytes) status)
