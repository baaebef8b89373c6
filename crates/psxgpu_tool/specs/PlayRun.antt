-- What a run does that plays a capture or a snapshot, given its mode and the state of the taps before. If the source
-- does not state its bytes, nothing is described.
use Rattle.std.specs.Prelude.{◌≡◌, ◌≤◌, ◌+◌, ◌++◌, ◌⊎◌, ℕ, List, [], IfSome, Some}
use Rattle.dev_io.specs.Device.{appended}
use Rattle.gpu_capture.specs.declared.event.Stop.TheVariants.{Truncated, ReadFault}
use Rattle.gpu_taps.specs.Tally.{Reading}
use Rattle.event_play.specs.Out.{out_bytes, out_cost, out_box_cost}
use Rattle.event_play.specs.Playing.{AreAllNeeded, LacksBytes}
use Rattle.event_play.specs.Replay.{Replay}
use Rattle.event_play.specs.Told.{told_notes}
use Rattle.event_play.specs.declared.ending.Ending.TheVariants.{Done, Stopped, WriteFailed}
use Rattle.event_play.specs.declared.ending.Mode.{Mode}
use Rattle.psxgpu_tool.specs.First.{file_ending, file_script, play_file, seen}
use Rattle.gpu_snapshot.specs.Opening.{opening_cost}
use Rattle.gpu_snapshot.specs.declared.ending.AnyEnding.TheVariants.{Played}
use Rattle.psxgpu_tool.specs.Line.{ending_line, any_status, any_text}
use Rattle.psxgpu_tool.specs.Outside.{Outside, Says, HasFailed, HasFailedToRead}
use Rattle.event_play.specs.PlayInput.{play_input, replay_pair}

-- status 0: the capture is complete, or the records after the state of the snapshot are; if a picture is written, there
-- is one; the bytes after the End remain, and the whole output was written
pub record WholeRun (mode : Mode) (heard : List Reading) (bytes : List ℕ) (before now : Outside) : Type 0 where
  pub ending : file_ending mode bytes ≡ Played Done
  pub left : now.source.left ≡ Some (play_file bytes).rest
  pub held : now.out.held ≡ appended before.out.held (out_bytes mode heard (play_file bytes))

abbrev pub Whole : Mode → List Reading → (before now : Outside) → Type 0
Whole mode heard before now = IfSome before.source.left (λ bytes. WholeRun mode heard bytes before now)

-- the bytes read decide the ending, whatever follows them, or there are no others; and each of them is needed
pub record Decided (mode : Mode) (bytes : List ℕ) (now : Outside) : Type 0 where
  pub taken : List ℕ
  pub rest : List ℕ
  pub all : bytes ≡ taken ++ rest
  pub left : now.source.left ≡ Some rest
  pub needed : AreAllNeeded play_file taken
  pub decides : ((more : List ℕ) → file_ending mode (taken ++ more) ≡ file_ending mode bytes)
      ⊎ (rest ≡ [])

-- status 2: the capture, the state of the snapshot, or one of the events, is refused. All output before was written,
-- and `err` receives why and where, and then the last items.
pub record RefusedRun (mode : Mode) (heard : List Reading) (bytes : List ℕ) (before now : Outside) : Type 0 where
  pub status : any_status (file_ending mode bytes) ≡ 2
  pub held : now.out.held ≡ appended before.out.held (out_bytes mode heard (play_file bytes))
  pub decided : Decided mode bytes now
  pub says : Says before.err now.err (any_text (file_ending mode bytes)
      (told_notes (play_file bytes).replay.notes heard))

abbrev pub Refused : Mode → List Reading → (before now : Outside) → Type 0
Refused mode heard before now = IfSome before.source.left (λ bytes. RefusedRun mode heard bytes before now)

-- status 3: the source failed when a byte was needed, at this event and byte offset; all output before was written
pub record StarvedRun (mode : Mode) (heard : List Reading) (bytes : List ℕ) (before now : Outside) : Type 0 where
  pub taken : List ℕ
  pub rest : List ℕ
  pub all : bytes ≡ taken ++ rest
  pub left : now.source.left ≡ Some rest
  pub event : ℕ
  pub byte : ℕ
  pub ending : file_ending mode taken ≡ Played (Stopped event (Truncated byte))
  pub held : now.out.held ≡ appended before.out.held (out_bytes mode heard (play_file taken))
  pub says : Says before.err now.err (ending_line (Stopped event (ReadFault byte)))

abbrev pub Starved : Mode → List Reading → (before now : Outside) → Type 0
Starved mode heard before now =
    HasFailedToRead before.source now.source × IfSome before.source.left
    (λ bytes. StarvedRun mode heard bytes before now)

-- status 4: `out` failed. What was written is the start of the whole output, and a byte that belongs to the event on
-- the line is missing. Each byte read is needed for that event, or for the End after it. But if lines are buffered, a
-- few more bytes may have been read.
pub record BlockedRun (mode : Mode) (heard : List Reading) (bytes : List ℕ) (before now : Outside) : Type 0 where
  pub taken : List ℕ
  pub rest : List ℕ
  pub all : bytes ≡ taken ++ rest
  pub left : now.source.left ≡ Some rest
  pub event : ℕ
  pub replay : Replay
  pub last : Replay
  pub lacks : LacksBytes (play_input mode file_script taken) (replay_pair replay last) event (seen heard before)
      (seen heard now)
  pub says : Says before.err now.err (ending_line (WriteFailed event))

abbrev pub Blocked : Mode → List Reading → (before now : Outside) → Type 0
Blocked mode heard before now = HasFailed before.out now.out
    × IfSome before.source.left (λ bytes. BlockedRun mode heard bytes before now)

-- the status is that of the capture's ending
abbrev pub EndsAsCaptured : Mode → Outside → (status : ℕ) → Type 0
EndsAsCaptured mode before status = IfSome before.source.left
    (λ bytes. status ≡ any_status (file_ending mode bytes))

-- at most as many steps as reading a state, the events and the output cost
abbrev pub WithinCost : Mode → (before now : Outside) → Type 0
WithinCost mode before now = IfSome before.source.left
    (λ bytes. now.steps ≤ before.steps + opening_cost bytes + out_cost mode (play_file bytes))

-- at most four steps for each cell of the boxes of what is drawn, those of reading a state, and those of the output
abbrev pub WithinBoxCost : Mode → (before now : Outside) → Type 0
WithinBoxCost mode before now = IfSome before.source.left
    (λ bytes. now.steps ≤ before.steps + opening_cost bytes + out_box_cost mode (play_file bytes))

-- what a run does that plays a capture; with status 5 it only reports that memory ran out
pub record PlayRun (mode : Mode) (heard : List Reading) (before now : Outside) (status : ℕ) : Type 0 where
  pub whole : status ≡ 0 → Whole mode heard before now
  pub refused : status ≡ 2 → Refused mode heard before now
  pub starved : status ≡ 3 → Starved mode heard before now
  pub cut : status ≡ 4 → Blocked mode heard before now
  -- if nothing failed, the capture alone decides the status, or memory ran out
  pub complete : (HasFailedToRead before.source now.source → ⊥) → (HasFailed before.out now.out → ⊥)
      → (status ≡ 5) ⊎ EndsAsCaptured mode before status
  pub cost : WithinCost mode before now
  pub box_cost : WithinBoxCost mode before now
