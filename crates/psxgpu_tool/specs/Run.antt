-- What a run does, given its arguments, the state of its taps before, and its status.
use Rattle.std.specs.Prelude.{◌≡◌, ◌≤◌, ◌↔◌, ℕ, List, Vec, String}
use Rattle.std.specs.declared.alloc.Global.{Global}
use Rattle.gpu_taps.specs.Tally.{Reading}
use Rattle.command_line.specs.Command.{Names, IsUsage}
use Rattle.psxgpu_tool.specs.CutRun.{CutRun}
use Rattle.psxgpu_tool.specs.FlatRun.{FlatRun}
use Rattle.psxgpu_tool.specs.Line.{usage_line, memory_line}
use Rattle.psxgpu_tool.specs.Outside.{Outside, Says}
use Rattle.psxgpu_tool.specs.PlayRun.{PlayRun}
use Rattle.psxgpu_tool.specs.SlimRun.{SlimRun}
use Rattle.psxgpu_tool.specs.TellRun.{DemoRun, TextRun, Unread}
use Rattle.psxgpu_tool.specs.declared.texts.TheConstants.{HELP, VERSION}
use Rattle.command_line.specs.declared.command.Command.{Command}
use Rattle.command_line.specs.declared.command.Command.TheVariants.{Plays, Flat, Slim, Cut, Demo, Help, Version}

-- what a run of a command does
abbrev pub RunsAs : Command → (heard : List Reading) → (before now : Outside) → (status : ℕ) → Type 0
RunsAs (Plays mode) heard before now status = PlayRun mode heard before now status
RunsAs Flat heard before now status = FlatRun heard before now status
RunsAs Slim heard before now status = SlimRun heard before now status
RunsAs (Cut events) heard before now status = CutRun events heard before now status
RunsAs (Demo packets) heard before now status = DemoRun packets heard before now status
RunsAs Help heard before now status = TextRun HELP.now before now status
RunsAs Version heard before now status = TextRun VERSION.now before now status

-- nothing is used except `err`, which receives this line
pub record Declined (line : List ℕ) (before now : Outside) : Type 0 where
  pub unread : Unread before now
  pub unwritten : now.out ≡ before.out
  pub free : now.steps ≡ before.steps
  pub says : Says before.err now.err line

-- What a run does whose arguments name a command. It never ends as wrong usage. If memory runs out, it only reports
-- that. If everything was written, `err` is unchanged.
pub record CommandRun (command : Command) (heard : List Reading) (before now : Outside) (status : ℕ) : Type 0 where
  pub does : RunsAs command heard before now status
  pub used : status ≡ 1 → ⊥
  pub starving : status ≡ 5 → Declined memory_line before now
  pub silent : status ≡ 0 → now.err ≡ before.err
  pub few : status ≤ 5

-- what a run does, given its arguments: that of the command that they name, or nothing
pub record Runs (words : Vec (String Global) Global) (heard : List Reading) (before now : Outside)
    (status : ℕ) : Type 0 where
  pub does : (command : Command) → Names words command → RunsAs command heard before now status
  pub usage : (status ≡ 1) ↔ IsUsage words
  pub misused : status ≡ 1 → Declined usage_line before now
  pub starving : status ≡ 5 → Declined memory_line before now
  pub silent : status ≡ 0 → now.err ≡ before.err
  pub few : status ≤ 5
