-- The output of a replay, and how playing ends, by the mode (our own rule).
use Rattle.std.specs.Prelude.{ℕ, ◌+◌, List, [], ◌++◌, flat_map, Bool, true, false, is_none}
use Rattle.gp1_status.specs.Registers.{Registers}
use Rattle.gp1_status.specs.Shape.{shape_of}
use Rattle.gpu_core.specs.Machine.{State, status_word}
use Rattle.gpu_taps.specs.Tally.{Reading}
use Rattle.packet_text.specs.Line.{status_line}
use Rattle.packet_text.specs.Tap.{tap_line}
use Rattle.picture_out.specs.Dump.{dump, dump_cost}
use Rattle.picture_out.specs.Picture.{picture, picture_cost}
use Rattle.event_play.specs.Frames.{frame_bytes, frame_sum, frame_cost, vram_sum, bytes_at_end, cost_at_end}
use Rattle.event_play.specs.Lines.{lines_for, lines_cost}
use Rattle.event_play.specs.Replay.{Replay, Played, next_number}
use Rattle.event_play.specs.Told.{told_notes}
use Rattle.event_play.specs.declared.ending.Ending.{Ending}
use Rattle.event_play.specs.declared.ending.Ending.TheVariants.{Done, NoPicture}
use Rattle.event_play.specs.declared.ending.Mode.{Mode}
use Rattle.event_play.specs.declared.ending.Mode.TheVariants.{Vram, Shot, Report, Frames, Sums, Pixel}
use Rattle.event_play.specs.declared.ending.Mode.TheVariants.{List as Listing, Play as Words}

-- the output written during the replay
abbrev pub lines_of : Mode → Replay → List ℕ
lines_of mode t = lines_for mode t.shown t.frames t.notes t.changes

-- the most store steps of playing and of this output, also by the boxes
abbrev pub replay_cost : Mode → Replay → ℕ
replay_cost mode t = t.cost + lines_cost mode t.frames t.changes

abbrev pub replay_box_cost : Mode → Replay → ℕ
replay_box_cost mode t = t.box_cost + lines_cost mode t.frames t.changes

-- ---- the end

-- The mode asks for a picture and the registers show none: its width or height is 0.
abbrev pub lacks_picture : Mode → Registers → Bool
lacks_picture Shot r = is_none (shape_of r)
lacks_picture mode r = false

abbrev pub unless_lacking : Bool → (number : ℕ) → Ending → Ending
unless_lacking true number Done = NoPicture number
unless_lacking lacks number ending = ending

-- How playing ends in a mode: as the replay does. But a whole replay without the picture that the mode asks for ends
-- with `NoPicture` at the number of the next event.
abbrev pub ending_under : Mode → Played → Ending
ending_under mode r =
    unless_lacking (lacks_picture mode r.replay.state.gpu.parts.regs) (next_number r.replay.played) r.ending

-- the final output: the status line; all cells of video memory; the picture if one is shown; the line of its digest and
-- that of video memory; or the line of each tap. `number`: the number of the next event
unfoldable pub final_bytes : Mode → (heard : List Reading) → (number : ℕ) → State → List ℕ
final_bytes Words heard number s = status_line (status_word s)
final_bytes Listing heard number s = []
final_bytes (Pixel cell) heard number s = []
final_bytes Vram heard number s = dump s.parts.m
final_bytes Shot heard number s = picture s.parts.m s.parts.regs
final_bytes (Frames at) heard number s = bytes_at_end at (frame_bytes s.parts)
final_bytes (Sums at) heard number s = bytes_at_end at (frame_sum number s.parts) ++ vram_sum s.parts.m
final_bytes Report heard number s = flat_map tap_line heard

unfoldable pub final_cost : Mode → State → ℕ
final_cost Words s = 0
final_cost Listing s = 0
final_cost (Pixel cell) s = 0
final_cost Vram s = dump_cost s.parts.m
final_cost Shot s = picture_cost s.parts.regs
final_cost (Frames at) s = cost_at_end at (frame_cost s.parts)
final_cost (Sums at) s = cost_at_end at (frame_cost s.parts) + dump_cost s.parts.m
final_cost Report s = 0

-- the final output and its store steps, only if playing ends with `Done`
abbrev pub finals_at : Ending → Mode → (heard : List Reading) → (number : ℕ) → State → List ℕ
finals_at Done mode heard number s = final_bytes mode heard number s
finals_at ending mode heard number s = []

abbrev pub finals_cost_at : Ending → Mode → State → ℕ
finals_cost_at Done mode s = final_cost mode s
finals_cost_at ending mode s = 0

-- the final output and its store steps; `heard`: what the taps recorded before the replay
abbrev pub finals : Mode → (heard : List Reading) → Played → List ℕ
finals mode heard r =
    finals_at (ending_under mode r) mode (told_notes r.replay.notes heard)
    (next_number r.replay.played) r.replay.state.gpu

abbrev pub finals_cost : Mode → Played → ℕ
finals_cost mode r = finals_cost_at (ending_under mode r) mode r.replay.state.gpu

-- ---- all of it

-- all output
abbrev pub out_bytes : Mode → (heard : List Reading) → Played → List ℕ
out_bytes mode heard r = lines_of mode r.replay ++ finals mode heard r

-- the most store steps of playing and of all output, also by the boxes
abbrev pub out_cost : Mode → Played → ℕ
out_cost mode r = replay_cost mode r.replay + finals_cost mode r

abbrev pub out_box_cost : Mode → Played → ℕ
out_box_cost mode r = replay_box_cost mode r.replay + finals_cost mode r
