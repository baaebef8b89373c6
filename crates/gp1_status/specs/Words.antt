-- The registers as thirteen words, and the bits that each word may have (our own rule).
use Rattle.std.specs.Prelude.{◌≡◌, ◌<◌, ℕ, ◌+◌, ◌*◌, ◌^◌, Bool, true, List, [], ◌∷◌, nat_lt, nat_le, ◌==◌, ◌&&◌}
use Rattle.std.specs.Prelude.{if◌then◌else◌, slice_index}
use Rattle.gp1_status.specs.Registers.{Registers, KeepsWidths, bit, bit_of}

-- The words of registers: the values of E1h to E6h, the flags (bit 0 the interrupt bit, bit 1 whether the display is
-- off), the DMA direction, the start of the display, its ranges, its mode, and the latch.
abbrev pub words_of : Registers → List ℕ
words_of r =
    r.e1 ∷ r.window ∷ r.top_left ∷ r.bottom_right ∷ r.offset ∷ r.mask ∷ (bit_of r.irq + bit_of r.display_off * 2)
    ∷ r.direction ∷ r.start ∷ r.hrange ∷ r.vrange ∷ r.mode ∷ r.held ∷ []

-- the registers with these words; video memory has `height` rows
abbrev pub registers_in : (height : ℕ) → List ℕ → Registers
registers_in height words =
    record {
      e1 = slice_index words 0;
      window = slice_index words 1;
      top_left = slice_index words 2;
      bottom_right = slice_index words 3;
      offset = slice_index words 4;
      mask = slice_index words 5;
      irq = bit (slice_index words 6) 0 == 1;
      display_off = bit (slice_index words 6) 1 == 1;
      direction = slice_index words 7;
      start = slice_index words 8;
      hrange = slice_index words 9;
      vrange = slice_index words 10;
      mode = slice_index words 11;
      held = slice_index words 12;
      height = height;
    }

-- the limit that word number `place`, from 0, is below
abbrev pub word_limit : (height place : ℕ) → ℕ
word_limit height place =
    if place == 0 then 2 ^ 14 else
    (if place == 1 then 2 ^ 20 else
    (if place == 2 then 1024 * height else
    (if place == 3 then 1024 * height else
    (if place == 4 then 2 ^ 22 else
    (if place == 5 then 4 else
    (if place == 6 then 4 else
    (if place == 7 then 4 else
    (if place == 8 then 1024 * height else
    (if place == 9 then 2 ^ 24 else
    (if place == 10 then 2 ^ 20 else
    (if place == 11 then 2 ^ 8 else 2 ^ 32)))))))))))

-- The word has only bits that word number `place` may have. The word of E1h has bit 11 only if there are 1024 rows.
abbrev pub is_allowed : (height place word : ℕ) → Bool
is_allowed height place word =
    if place == 0 then nat_lt word (2 ^ 14) && nat_le (512 * bit word 11 + 512) height
    else nat_lt word (word_limit height place)

pub record AreAllowed (height : ℕ) (words : List ℕ) : Type 0 where
  pub each : (place : ℕ) → place < 13 → is_allowed height place (slice_index words place) ≡ true

-- registers read from the words of registers are the same registers, and these words have no bit that they may not have
abbrev pub WordsSayAll : Type 0
WordsSayAll = (r : Registers) → KeepsWidths r → r.held < 2 ^ 32
    → (registers_in r.height (words_of r) ≡ r) × AreAllowed r.height (words_of r)
