-- Hazards by pairs of lanes and by positions.
use Rattle.std.proofs.Common.{ℕ, ◌+◌, ◌-◌, ◌%◌, ◌<◌, ◌≤◌, ◌≡◌, ◌↔◌, ◌⊎◌, inl, inr, refl, sym, ◌∙◌, add-zero, arith}
use Rattle.std.proofs.lemmas.Bool.{cases_lt}
use Rattle.px_num.specs.declared.shape.Cell.{Cell}
use Rattle.px_num.specs.declared.shape.Strip.{Strip}
use Rattle.overlap_guard.specs.Hazard.{HasCopyHazard, HasStripHazard}

-- the target is to the right of the source in one row, less than n cells away
abbrev pub Trails : Cell → Cell → ℕ → Type 0
Trails source target n = (source.y ≡ target.y) × (source.x < target.x) × (target.x < source.x + n)

pub trails_iff : (source target : Cell) (n : ℕ) → Trails source target n ↔ HasCopyHazard source target n
trails_iff source target n = (
  λ h. (target.x - source.x, omega (arith, h.1, h.2), (0, omega (arith, h.1), (omega (arith, h.1), h.0))),
  λ h. (h.2.2.1, omega (arith, h.2.1, h.2.2.0), omega (arith, h.1, h.2.2.0)),
)

pub iff_trans : {P Q R : Type 0} → P ↔ Q → Q ↔ R → P ↔ R
iff_trans f g = (λ p. g.0 (f.0 p), λ r. f.1 (g.1 r))

-- ---- strips, which wrap, and chunks, which do not

-- the strip, whose first column is given, contains the chunk's first cell, or the chunk contains the strip's first
-- cell
abbrev pub MeetsStrip : ℕ → Strip → Cell → ℕ → Type 0
MeetsStrip first strip target n = (strip.y ≡ target.y) × (0 < strip.n)
    × (((target.x + 1024 - first) % 1024 < strip.n) ⊎ ((target.x ≤ first) × (first < target.x + n)))

-- if they have columns in common, but not the chunk's first, the strip starts within the chunk
beyond : (s first count to n k i : ℕ) → first ≡ s % 1024 → to + n ≤ 1024 → k < count → i < n → (s + k) % 1024 ≡ to + i
    → count ≤ (to + 1024 - first) % 1024 → (to ≤ first) × (first < to + n)
beyond s first count to n k i a b c d e f = (omega arith, omega arith)

-- the column of the chunk's first cell, counted from the strip's first
within : (s first to : ℕ) → first ≡ s % 1024 → to < 1024 → (s + (to + 1024 - first) % 1024) % 1024 ≡ to
within s first to a b = omega arith

pub strip_places : (strip : Strip) (target : Cell) (n : ℕ) → 1 ≤ n → target.x + n ≤ 1024
    → MeetsStrip (strip.x % 1024) strip target n ↔ HasStripHazard strip target n
strip_places strip target n some room = (to, from)
  where
    to : MeetsStrip (strip.x % 1024) strip target n → HasStripHazard strip target n
    to h = elim h.2 [
      | inl less ↦ (
        (target.x + 1024 - strip.x % 1024) % 1024,
        less,
        (0, omega arith, (within strip.x (strip.x % 1024) target.x refl (omega arith) ∙ sym (add-zero target.x), h.0)),
      )
      | inr begins ↦
          (0, h.1, (strip.x % 1024 - target.x, omega (arith, begins.0, begins.1), (omega (arith, begins.0), h.0)))
    ]

    from : HasStripHazard strip target n → MeetsStrip (strip.x % 1024) strip target n
    from h = (
      h.2.2.1,
      omega (arith, h.1),
      elim (cases_lt ((target.x + 1024 - strip.x % 1024) % 1024) strip.n) [
        | inl less ↦ inl less
        | inr more ↦ inr (beyond strip.x (strip.x % 1024) strip.n target.x n h.0 h.2.0 refl room h.1 h.2.1 h.2.2.0 more)
      ],
    )
