-- A capture on a new machine.
use Rattle.std.specs.Prelude.{ℕ, List}
use Rattle.gpu_taps.specs.Tally.{Reading}
use Rattle.event_play.specs.Replay.{Replay, Played, Script, played_capture, from_state}
use Rattle.event_play.specs.Step.{first_machine}
use Rattle.event_play.specs.Streams.{Streams, streams}
use Rattle.event_play.specs.declared.ending.Mode.{Mode}
use Rattle.gpu_snapshot.specs.PlayAny.{script_file, played_file, any_ending_under}
use Rattle.gpu_snapshot.specs.declared.ending.AnyEnding.{AnyEnding}
use Rattle.psxgpu_tool.specs.Outside.{Outside}

abbrev pub first : Replay
first = from_state first_machine 0

-- the replay of a capture
abbrev pub play_of : List ℕ → Played
play_of bytes = played_capture first bytes

-- a file: a capture, or a snapshot and the records after it; its events, and their replay
abbrev pub file_script : List ℕ → Script
file_script bytes = script_file first bytes

abbrev pub play_file : List ℕ → Played
play_file bytes = played_file first bytes

-- how a file ends in a mode
abbrev pub file_ending : Mode → List ℕ → AnyEnding
file_ending mode bytes = any_ending_under mode first bytes

-- the source, the sink, the taps and the steps that playing uses
abbrev pub seen : List Reading → Outside → Streams
seen heard o = streams o.source.left o.out.held heard o.steps
