-- The pictures of a film and their digests (our own rule).
use Rattle.std.specs.Prelude.{ℕ, ◌+◌, ◌==◌, Bool, List, [], ◌∷◌, Option, None, Some, if◌then◌else◌}
use Rattle.gp1_status.specs.Registers.{opcode_of}
use Rattle.gp1_status.specs.Shape.{shape_of}
use Rattle.gpu_capture.specs.declared.event.Event.{Event}
use Rattle.gpu_capture.specs.declared.event.Event.TheVariants as event
use Rattle.gpu_core.specs.Machine.{Parts}
use Rattle.packet_text.specs.Sums.{frame_sum_line, vram_sum_line}
use Rattle.picture_out.specs.Dump.{dump}
use Rattle.picture_out.specs.Picture.{picture, picture_cost}
use Rattle.sha2.specs.Sha256.{sha256}
use Rattle.event_play.specs.declared.ending.FrameTrigger.{FrameTrigger}
use Rattle.event_play.specs.declared.ending.FrameTrigger.TheVariants.{Flip, Mark}

-- whether a word of GP1 triggers a picture: a flip is opcode 05h, the start of the display area; a mark is opcode 3Fh,
-- which has no effect
abbrev pub is_frame_trigger : FrameTrigger → (word : ℕ) → Bool
is_frame_trigger Flip word = opcode_of word == 5
is_frame_trigger Mark word = opcode_of word == 0x3f

-- what can be seen after a word of GP1: that word, the number of its event, and the parts of the GPU after it
pub record Frame : Type 0 where
  pub word : ℕ
  pub number : ℕ
  pub parts : Parts

abbrev pub frames_after : Event → (number : ℕ) → Parts → List Frame
frames_after (event.Gp1 word) number parts = record { word = word; number = number; parts = parts } ∷ []
frames_after other number parts = []

-- ---- the output for one frame

-- its picture; empty if the registers show none
unfoldable pub frame_bytes : Parts → List ℕ
frame_bytes parts = picture parts.m parts.regs

-- the line of the picture's digest, with its width and height; empty if no picture is shown
abbrev pub sum_by_shape : (number : ℕ) → Option (ℕ × ℕ) → (bytes : List ℕ) → List ℕ
sum_by_shape number None bytes = []
sum_by_shape number (Some shape) bytes = frame_sum_line number shape (sha256 bytes)

unfoldable pub frame_sum : (number : ℕ) → Parts → List ℕ
frame_sum number parts = sum_by_shape number (shape_of parts.regs) (frame_bytes parts)

-- the store steps of a picture
unfoldable pub frame_cost : Parts → ℕ
frame_cost parts = picture_cost parts.regs

-- ---- the frames at the selected events

abbrev pub picture_at : FrameTrigger → Frame → List ℕ
picture_at at frame = if is_frame_trigger at frame.word then frame_bytes frame.parts else []

abbrev pub sum_at : FrameTrigger → Frame → List ℕ
sum_at at frame = if is_frame_trigger at frame.word then frame_sum frame.number frame.parts else []

abbrev pub cost_at : FrameTrigger → Frame → ℕ
cost_at at frame = if is_frame_trigger at frame.word then frame_cost frame.parts else 0

abbrev pub frames_cost : FrameTrigger → List Frame → ℕ
frames_cost at [] = 0
frames_cost at (frame ∷ frames) = cost_at at frame + frames_cost at frames

-- ---- after the last event

-- For flips, there is a picture after the last event too. For marks, there is none.
abbrev pub bytes_at_end : FrameTrigger → (bytes : List ℕ) → List ℕ
bytes_at_end Flip bytes = bytes
bytes_at_end Mark bytes = []

abbrev pub cost_at_end : FrameTrigger → (cost : ℕ) → ℕ
cost_at_end Flip cost = cost
cost_at_end Mark cost = 0

-- the line of the digest of all cells of video memory
unfoldable pub vram_sum : List ℕ → List ℕ
vram_sum m = vram_sum_line (sha256 (dump m))
