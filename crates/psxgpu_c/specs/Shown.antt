-- What the calls of C write of a machine to a buffer of the caller.
use Rattle.std.specs.Prelude.{◌≡◌, ◌≤◌, ◌<◌, ◌*◌, ◌++◌, ◌∷◌, ◌&&◌, ℕ, zero, suc, Bool, List, [], Option}
use Rattle.std.specs.Prelude.{Some, None, Result, Ok, Err, if◌then◌else◌, take, drop, length, nat_lt}
use Rattle.gp1_status.specs.Registers.{Registers}
use Rattle.gp1_status.specs.Shape.{shape_of}
use Rattle.picture_out.specs.Picture.{display_of, picture, pixel_count, pixels_from}
use Rattle.vram_store.specs.Vram.{at}
use Rattle.event_play.specs.RigState.{RigState}
use Rattle.psxgpu_c.specs.Codes.{code_for, code_of}
use Rattle.psxgpu_c.specs.declared.refusal.Refusal.{Refusal}
use Rattle.psxgpu_c.specs.declared.refusal.Refusal.TheVariants as refusal

-- these values are at the start of the buffer, and the others are unchanged
pub record StandsInFront {Value : Type 0} (due before now : List Value) : Type 0 where
  pub fits : length due ≤ length before
  pub front : take (length due) now ≡ due
  pub after : drop (length due) now ≡ drop (length due) before

-- The values were written to the start, and the result is their number. Or the buffer is too short and unchanged.
abbrev pub PutsIfRoom : (due before now : List ℕ) → Result ℕ Refusal → Type 0
PutsIfRoom due before now (Ok count) = StandsInFront due before now × (count ≡ length due)
PutsIfRoom due before now (Err refusal.NoRoom) = (now ≡ before) × (length before < length due)
PutsIfRoom due before now (Err other) = ⊥

-- The same; or memory ran out, and the buffer is unchanged.
abbrev pub Puts : (due before now : List ℕ) → Result ℕ Refusal → Type 0
Puts due before now (Err refusal.NoMemory) = now ≡ before
Puts due before now answer = PutsIfRoom due before now answer

-- the same if there may be no picture
abbrev pub PutsDue : (due : Option (List ℕ)) → (before now : List ℕ) → Result ℕ Refusal → Type 0
PutsDue None before now answer = (answer ≡ Err refusal.NoPicture) × (now ≡ before)
PutsDue (Some due) before now answer = Puts due before now answer

-- the same for a handle
abbrev pub Views : (held : Option RigState) → (RigState → Option (List ℕ)) → (before now : List ℕ)
    → Result ℕ Refusal → Type 0
Views None due before now answer = (answer ≡ Err refusal.Closed) × (now ≡ before)
Views (Some rig) due before now answer = PutsDue (due rig) before now answer

-- the same for a handle whose registers are written: that needs no memory
abbrev pub SeesWords : (held : Option RigState) → (RigState → List ℕ) → (before now : List ℕ)
    → Result ℕ Refusal → Type 0
SeesWords None due before now answer = (answer ≡ Err refusal.Closed) × (now ≡ before)
SeesWords (Some rig) due before now answer = PutsIfRoom (due rig) before now answer

-- the number of values written, by the result
abbrev pub count_of : Result ℕ Refusal → ℕ
count_of (Ok count) = count
count_of (Err why) = 0

-- the code of a result that satisfies `Holds`
pub record Answers (Holds : Result ℕ Refusal → Type 0) (code : ℕ) : Type 0 where
  pub answer : Result ℕ Refusal
  pub holds : Holds answer
  pub is_code : code ≡ code_of answer

-- the same with its count
pub record Tells (Holds : Result ℕ Refusal → Type 0) (code written : ℕ) : Type 0 where
  pub answer : Result ℕ Refusal
  pub holds : Holds answer
  pub is_code : code ≡ code_of answer
  pub is_written : written ≡ count_of answer

-- ---- pictures

-- the value, if there is a pixel to show
abbrev pub where_shown : {Value : Type 0} → Option (ℕ × ℕ) → Value → Option Value
where_shown None value = None
where_shown (Some shape) value = Some value

-- the picture as PPM
abbrev pub picture_due : RigState → Option (List ℕ)
picture_due rig = where_shown (shape_of rig.gpu.parts.regs) (picture rig.gpu.parts.m rig.gpu.parts.regs)

-- n times three bytes, red, green and blue, each followed by an alpha of 255
abbrev pub with_alpha : (bytes : List ℕ) → (n : ℕ) → List ℕ
with_alpha bytes zero = []
with_alpha bytes (suc n) = with_alpha bytes n ++ (take 3 (drop (3 * n) bytes) ++ 255 ∷ [])

-- the pixels that the picture has as PPM, each with an alpha
abbrev pub rgba_by_shape : List ℕ → Registers → Option (ℕ × ℕ) → Option (List ℕ)
rgba_by_shape m regs None = None
rgba_by_shape m regs (Some shape) =
    let shown = display_of regs shape in
    let count = pixel_count shown in
    Some (with_alpha (pixels_from m shown 0 count) count)

-- the picture as RGBA
abbrev pub rgba_due : RigState → Option (List ℕ)
rgba_due rig = rgba_by_shape rig.gpu.parts.m rig.gpu.parts.regs (shape_of rig.gpu.parts.regs)

-- the caller's width and height were set to those of the picture
abbrev pub ShowsShape : Option (ℕ × ℕ) → (before now : ℕ × ℕ) → (code : ℕ) → Type 0
ShowsShape None before now code = (code ≡ code_for refusal.NoPicture) × (now ≡ before)
ShowsShape (Some shape) before now code = (code ≡ 0) × (now ≡ shape)

-- the same for a handle
abbrev pub SeesShape : Option RigState → (before now : ℕ × ℕ) → (code : ℕ) → Type 0
SeesShape None before now code = (code ≡ code_for refusal.Closed) × (now ≡ before)
SeesShape (Some rig) before now code = ShowsShape (shape_of rig.gpu.parts.regs) before now code

-- ---- cells

-- whether video memory has a cell there
abbrev pub has_cell : RigState → (x y : ℕ) → Bool
has_cell rig x y = nat_lt x 1024 && nat_lt y rig.gpu.parts.regs.height

-- its value, if there is one
abbrev pub cell_due : (x y : ℕ) → RigState → Option ℕ
cell_due x y rig = if has_cell rig x y then Some (at rig.gpu.parts.m x y) else None

-- the caller's value was set to that of the cell
abbrev pub ShowsCell : Option ℕ → (before now code : ℕ) → Type 0
ShowsCell (Some due) before now code = (code ≡ 0) × (now ≡ due)
ShowsCell None before now code = (code ≡ code_for refusal.NoCell) × (now ≡ before)

-- the same for a handle
abbrev pub SeesCell : Option RigState → (RigState → Option ℕ) → (before now code : ℕ) → Type 0
SeesCell None due before now code = (code ≡ code_for refusal.Closed) × (now ≡ before)
SeesCell (Some rig) due before now code = ShowsCell (due rig) before now code
