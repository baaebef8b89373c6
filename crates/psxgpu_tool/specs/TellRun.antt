-- What a run does that reads nothing.
use Rattle.std.specs.Prelude.{◌≡◌, ◌≤◌, ◌+◌, ◌⊎◌, ℕ, List}
use Rattle.dev_io.specs.Device.{appended, AppendsPart}
use Rattle.gpu_taps.specs.Tally.{Reading}
use Rattle.event_play.specs.Replay.{next_number}
use Rattle.event_play.specs.declared.ending.Ending.TheVariants.{WriteFailed}
use Rattle.demo_play.specs.DemoOut.{demo_replay, demo_out, demo_cost, demo_box_cost}
use Rattle.psxgpu_tool.specs.Line.{ending_line}
use Rattle.psxgpu_tool.specs.Outside.{Outside, Says, HasFailed}

-- the source, and its count of failures, are unchanged
abbrev pub Unread : (before now : Outside) → Type 0
Unread before now = now.source ≡ before.source

-- these bytes were written; or `out` failed, and a byte that belongs to this event is missing
abbrev pub Tells : (bytes : List ℕ) → (event : ℕ) → (before now : Outside) → (status : ℕ) → Type 0
Tells bytes event before now status =
    ((status ≡ 0) × (now.out.held ≡ appended before.out.held bytes))
    ⊎ ((status ≡ 4) × AppendsPart before.out.held now.out.held bytes × HasFailed before.out now.out
    × Says before.err now.err (ending_line (WriteFailed event)))

-- a demo: its output follows its last event
pub record DemoRun (packets : ℕ) (heard : List Reading) (before now : Outside) (status : ℕ) : Type 0 where
  pub tells : (status ≡ 5) ⊎ Tells (demo_out packets heard) (next_number (demo_replay packets).played) before now status
  pub unread : Unread before now
  pub cost : now.steps ≤ before.steps + demo_cost packets
  pub box_cost : now.steps ≤ before.steps + demo_box_cost packets

-- a fixed text
pub record TextRun (text : List ℕ) (before now : Outside) (status : ℕ) : Type 0 where
  pub tells : Tells text 1 before now status
  pub unread : Unread before now
  pub free : now.steps ≡ before.steps
