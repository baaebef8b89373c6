-- The output of a demo (our own rule).
use Rattle.std.specs.Prelude.{ℕ, ◌+◌, ◌*◌, List, ◌++◌, flat_map, sum}
use Rattle.gpu_core.specs.Machine.{State, status_word}
use Rattle.gpu_taps.specs.Tally.{Reading}
use Rattle.packet_text.specs.Line.{status_line}
use Rattle.packet_text.specs.Tap.{tap_line, sum_line}
use Rattle.px_num.specs.Height.{short_height}
use Rattle.event_play.specs.Replay.{Replay, from_state}
use Rattle.event_play.specs.Step.{first_machine}
use Rattle.event_play.specs.Told.{told_notes}
use Rattle.demo_play.specs.Demo.{demo_events}
use Rattle.demo_play.specs.Words.{whole_replay}

-- the line of each tap, the status line, and the sum of all cells
abbrev pub demo_bytes : (heard : List Reading) → State → List ℕ
demo_bytes heard s = flat_map tap_line heard ++ (status_line (status_word s) ++ sum_line (sum s.parts.m))

-- the replay of the demo with n packets, on a new machine
abbrev pub demo_replay : (n : ℕ) → Replay
demo_replay n = (whole_replay (from_state first_machine 0) (demo_events n)).replay

-- the whole output, given the state of the taps before
abbrev pub demo_out : (n : ℕ) → (heard : List Reading) → List ℕ
demo_out n heard = demo_bytes (told_notes (demo_replay n).notes heard) (demo_replay n).state.gpu

-- the steps of reading all cells, sixteen per step
abbrev pub cells_cost : ℕ
cells_cost = 64 * short_height

-- the maximum steps of playing and writing, and the same by the boxes of what is drawn
abbrev pub demo_cost : (n : ℕ) → ℕ
demo_cost n = (demo_replay n).cost + cells_cost

abbrev pub demo_box_cost : (n : ℕ) → ℕ
demo_box_cost n = (demo_replay n).box_cost + cells_cost
