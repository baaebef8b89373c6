-- The registers of the GPU, the words that write them, and the status word
-- (psx-spx, "GPU Rendering Attributes", "GPU Display Control Commands (GP1)", "GPU Status Register").
use Rattle.std.specs.Prelude.{ℕ, ◌+◌, ◌-◌, ◌*◌, ◌/◌, ◌%◌, ◌^◌, ◌<◌, ◌≤◌, nat_le, ◌==◌, ◌&&◌}
use Rattle.std.specs.Prelude.{Bool, true, false, Option, Some, None, if◌then◌else◌, unwrap_or}
use Rattle.std.specs.Int.{bit_at}
use Rattle.px_num.specs.Height.{IsHeight}

-- the values of the registers, and the height of video memory in rows
pub record Registers : Type 0 where
  pub e1 : ℕ
  pub window : ℕ
  pub top_left : ℕ
  pub bottom_right : ℕ
  pub offset : ℕ
  pub mask : ℕ
  pub irq : Bool
  pub display_off : Bool
  pub direction : ℕ
  pub start : ℕ
  pub hrange : ℕ
  pub vrange : ℕ
  pub mode : ℕ
  pub held : ℕ
  pub height : ℕ

-- bit j of a number, counted from 0
abbrev pub bit : ℕ → ℕ → ℕ
bit number j = bit_at number j

-- 1 for true
abbrev pub bit_of : Bool → ℕ
bit_of b = if b then 1 else 0

-- bit 11 of a word if video memory has 1024 rows, 0 if it has 512 (our own rule: psx-spx, "2 MB VRAM")
abbrev pub high_page_bit : (height word : ℕ) → ℕ
high_page_bit height word = word / 2 ^ 11 % (height / 512)

-- X in bits 0 to 9, and from bit 10 on a Y below the height
abbrev pub place_of : (height word : ℕ) → ℕ
place_of height word = word % (1024 * height)

-- the bounds of the values
pub record KeepsWidths (r : Registers) : Type 0 where
  pub height : IsHeight r.height
  pub e1 : r.e1 < 2 ^ 14
  pub page : 512 * bit r.e1 11 + 512 ≤ r.height
  pub window : r.window < 2 ^ 20
  pub top_left : r.top_left < 1024 * r.height
  pub bottom_right : r.bottom_right < 1024 * r.height
  pub offset : r.offset < 2 ^ 22
  pub mask : r.mask < 4
  pub direction : r.direction < 4
  pub start : r.start < 1024 * r.height
  pub hrange : r.hrange < 2 ^ 24
  pub vrange : r.vrange < 2 ^ 20
  pub mode : r.mode < 2 ^ 8

-- ---- the environment, GP0(E1h) to GP0(E6h)

-- the state after a reset; the latch and the height stay (our own rule)
abbrev pub reset : (latch height : ℕ) → Registers
reset latch height =
    record {
      e1 = 0;
      window = 0;
      top_left = 0;
      bottom_right = 0;
      offset = 0;
      mask = 0;
      irq = false;
      display_off = true;
      direction = 0;
      start = 0;
      hrange = 0x200 + 0xc00 * 2 ^ 12;
      vrange = 0x10 + 0x100 * 2 ^ 10;
      mode = 0;
      held = latch;
      height = height;
    }

-- draw mode: bits 0 to 10, 12 and 13, and bit 11 by the height
abbrev pub draw_mode_of : (height value : ℕ) → ℕ
draw_mode_of height value = value % 2 ^ 11 + high_page_bit height value * 2 ^ 11 + value / 2 ^ 12 % 4 * 2 ^ 12

-- `value` is written to register 1 to 6 of the environment
abbrev pub env_of : Registers → (index value : ℕ) → Registers
env_of r index value =
    if index == 1 then record r { e1 = draw_mode_of r.height value } else
    (if index == 2 then record r { window = value % 2 ^ 20 } else
    (if index == 3 then record r { top_left = place_of r.height value } else
    (if index == 4 then record r { bottom_right = place_of r.height value } else
    (if index == 5 then record r { offset = value % 2 ^ 22 } else
    record r { mask = value % 4 }))))

-- a texture page attribute replaces bits 0 to 8, and bit 11 by the height; bits 9, 10, 12 and 13 stay
abbrev pub page_of : (height attribute e1 : ℕ) → ℕ
page_of height attribute e1 =
    attribute % 2 ^ 9 + e1 / 2 ^ 9 % 4 * 2 ^ 9 + high_page_bit height attribute * 2 ^ 11 + e1 / 2 ^ 12 * 2 ^ 12

-- ---- GP1

-- what GP1(10h) puts into the latch, by the low four bits of the index
abbrev pub info_of : Registers → (index : ℕ) → Option ℕ
info_of r index =
    if index % 16 == 2 then Some r.window else
    (if index % 16 == 3 then Some r.top_left else
    (if index % 16 == 4 then Some r.bottom_right else
    (if index % 16 == 5 then Some r.offset else
    (if index % 16 == 7 then Some 2 else
    (if index % 16 == 8 then Some 0 else None)))))

-- bits 24 to 29 of a word of GP1, so that opcodes repeat every 40h (our own rule)
abbrev pub opcode_of : ℕ → ℕ
opcode_of word = word / 2 ^ 24 % 64

-- the word ends an unfinished packet, load, polyline and store
abbrev pub is_clearing : ℕ → Bool
is_clearing word = nat_le (opcode_of word) 1

-- the effect of a word of GP1
abbrev pub gp1_of : Registers → (word : ℕ) → Registers
gp1_of r word =
    let opcode = opcode_of word in
    if opcode == 0x00 then reset r.held r.height else
    (if opcode == 0x02 then record r { irq = false } else
    (if opcode == 0x03 then record r { display_off = word % 2 == 1 } else
    (if opcode == 0x04 then record r { direction = word % 4 } else
    (if opcode == 0x05 then record r { start = place_of r.height word } else
    (if opcode == 0x06 then record r { hrange = word % 2 ^ 24 } else
    (if opcode == 0x07 then record r { vrange = word % 2 ^ 20 } else
    (if opcode == 0x08 then record r { mode = word % 2 ^ 8 } else
    (if nat_le 0x10 opcode && nat_le opcode 0x1f
    then record r { held = unwrap_or (info_of r word) r.held } else r))))))))

-- ---- the status word

-- bit 25, by the DMA direction: 0; 1, since the FIFO is never full (our own rule); bit 28; bit 27
abbrev pub request_of : Registers → (sending : Bool) → ℕ
request_of r sending =
    if r.direction == 0 then 0 else
    (if r.direction == 1 then 1 else
    (if r.direction == 2 then 1 - bit_of sending else bit_of sending))

-- the status word, field by field; `idle`: nothing of GP0 is unfinished; `sending`: a store is open (our own rules)
abbrev pub status_of : Registers → (idle sending : Bool) → ℕ
status_of r idle sending =
    r.e1 % 2 ^ 11
    + r.mask * 2 ^ 11
    + 1 * 2 ^ 13
    + bit r.mode 7 * 2 ^ 14
    + bit r.e1 11 * 2 ^ 15
    + bit r.mode 6 * 2 ^ 16
    + r.mode % 4 * 2 ^ 17
    + r.mode / 4 % 16 * 2 ^ 19
    + bit_of r.display_off * 2 ^ 23
    + bit_of r.irq * 2 ^ 24
    + request_of r sending * 2 ^ 25
    + bit_of idle * 2 ^ 26
    + bit_of sending * 2 ^ 27
    + (1 - bit_of sending) * 2 ^ 28
    + r.direction * 2 ^ 29
