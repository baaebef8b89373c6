-- The drawing settings in the registers (psx-spx, "GPU Rendering Attributes").
use Rattle.std.specs.Prelude.{ℕ, ◌≤◌, ℤ, pos, negsuc, ◌+◌, ◌*◌, ◌/◌, ◌%◌, ◌^◌, ◌==◌, Bool, ◌≤ℤ◌, ◌<ℤ◌}
use Rattle.px_num.specs.Number.{signed_11}
use Rattle.px_num.specs.declared.shape.Box2.{Box2}
use Rattle.gp1_status.specs.Registers.{Registers, bit}
use Rattle.gp1_status.specs.declared.regs.drawing.Flips.{Flips}
use Rattle.gp1_status.specs.declared.regs.drawing.Offset.{Offset}
use Rattle.texture_page.specs.declared.page.Page.{Page}
use Rattle.texture_page.specs.declared.page.Window.{Window}

-- the drawing offset
abbrev pub offset_x : Registers → ℤ
offset_x r = signed_11 r.offset

abbrev pub offset_y : Registers → ℤ
offset_y r = signed_11 (r.offset / 2 ^ 11)

abbrev pub offset_in : Registers → Offset
offset_in r = record { x = offset_x r; y = offset_y r }

-- both coordinates are -1024 to 1023
pub record IsOffset (offset : Offset) : Type 0 where
  pub left : negsuc 1023 ≤ℤ offset.x
  pub right : offset.x ≤ℤ pos 1023
  pub top : negsuc 1023 ≤ℤ offset.y
  pub bottom : offset.y ≤ℤ pos 1023

-- from the top left corner to the bottom right one, with both corners
unfoldable pub drawing_area : Registers → Box2
drawing_area r = record {
  x1 = pos (r.top_left % 1024);
  y1 = pos (r.top_left / 1024);
  x2 = pos (r.bottom_right % 1024);
  y2 = pos (r.bottom_right / 1024);
}

-- a box inside video memory, unless it has no cell
pub record IsArea (height : ℕ) (b : Box2) : Type 0 where
  pub left : pos 0 ≤ℤ b.x1
  pub right : b.x2 ≤ℤ pos 1023
  pub top : pos 0 ≤ℤ b.y1
  pub bottom : b.y2 <ℤ pos height
  pub reach : height ≤ 1024

-- Draw mode: bits 0 to 3 are the page's column divided by 64, bits 4 and 11 its row divided by 256. Bits 7 and 8 are
-- its depth.
abbrev pub page_in : Registers → Page
page_in r = record { x = r.e1 % 16 * 64; y = bit r.e1 4 * 256 + bit r.e1 11 * 512; depth = r.e1 / 2 ^ 7 % 4 }

-- five bits for each field of the texture window
abbrev pub window_in : Registers → Window
window_in r = record {
  mask_x = r.window % 32;
  mask_y = r.window / 2 ^ 5 % 32;
  off_x = r.window / 2 ^ 10 % 32;
  off_y = r.window / 2 ^ 15 % 32;
}

-- bits 5 and 6 of the draw mode
abbrev pub blend_mode : Registers → ℕ
blend_mode r = r.e1 / 2 ^ 5 % 4

-- bit 9 of the draw mode
abbrev pub dithers : Registers → Bool
dithers r = bit r.e1 9 == 1

-- bits 12 and 13 of the draw mode
abbrev pub flips_in : Registers → Flips
flips_in r = record { x = bit r.e1 12 == 1; y = bit r.e1 13 == 1 }
