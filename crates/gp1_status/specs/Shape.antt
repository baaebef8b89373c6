-- The size of the displayed picture (psx-spx, "GPU Display Control Commands (GP1)": horizontal and vertical display
-- range, display mode).
use Rattle.std.specs.Prelude.{ℕ, ◌+◌, ◌-◌, ◌*◌, ◌/◌, ◌%◌, ◌^◌, ◌==◌, ◌&&◌, ◌||◌, Option, Some, None, if◌then◌else◌}
use Rattle.gp1_status.specs.Registers.{Registers, bit}

-- the cycles of one pixel
abbrev pub cycles_of : (mode : ℕ) → ℕ
cycles_of mode =
    if bit mode 6 == 1 then 7 else
    (if mode % 4 == 0 then 10 else
    (if mode % 4 == 1 then 8 else
    (if mode % 4 == 2 then 5 else 4)))

-- the difference in cycles, divided by those of a pixel, rounded to a multiple of 4; 0 if X2 is not above X1 (our own
-- rule)
abbrev pub width_of : (hrange mode : ℕ) → ℕ
width_of hrange mode = ((hrange / 2 ^ 12 - hrange % 2 ^ 12) / cycles_of mode + 2) / 4 * 4

-- the difference in lines, doubled if the picture is interlaced with 480 lines
abbrev pub lines_of : (vrange mode : ℕ) → ℕ
lines_of vrange mode =
    let lines = vrange / 2 ^ 10 - vrange % 2 ^ 10 in
    if (bit mode 2 == 1) && (bit mode 5 == 1) then 2 * lines else lines

abbrev pub shape_of : Registers → Option (ℕ × ℕ)
shape_of r =
    let width = width_of r.hrange r.mode in
    let lines = lines_of r.vrange r.mode in
    if (width == 0) || (lines == 0) then None else Some (width, lines)
