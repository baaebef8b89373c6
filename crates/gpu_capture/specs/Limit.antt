-- How many bytes of a capture are read (our own rule).
use Rattle.std.specs.Prelude.{◌≡◌, ◌≤◌, ◌+◌, ◌%◌, ◌++◌, ℕ, List, length, min}
use Rattle.gpu_capture.specs.Capture.{capture, limit, then_events}
use Rattle.gpu_capture.specs.Reader.{AreNeeded, IsStart, capture_from}
use Rattle.gpu_capture.specs.declared.event.Event.{Event}
use Rattle.gpu_capture.specs.declared.progress.Progress.{Progress}

-- If all bytes read are needed, they end at or before offset 2^30: for a reader at the start, and for one at any word.
pub record TakesFew : Type 0 where
  pub all : (p : Progress) (taken : List ℕ) → IsStart p → AreNeeded p taken → length taken ≤ limit
  pub rest : (p : Progress) (taken : List ℕ) → 1 ≤ p.version → p.offset % 4 ≡ 0 → p.offset ≤ limit → AreNeeded p taken
      → p.offset + length taken ≤ limit

-- After the header, the next event waits for no byte. Either a repeated event is left, which needs none, or the source
-- has at least 16 bytes at hand. The longest record of one event has 16 bytes.
abbrev pub IsAtHand : Progress → (at_hand : ℕ) → Type 0
IsAtHand p at_hand = p.left ≡ 0 → 16 ≤ at_hand

-- One call of a reader reads at most 16 bytes, or 24 with the header. After the header, the bytes read in all are as
-- many as `offset`, at most 2^30.
pub record TakesFewAtOnce : Type 0 where
  pub first : (p : Progress) (taken : List ℕ) → IsStart p → AreNeeded p taken → length taken ≤ 24
  pub once : (p : Progress) (taken : List ℕ) → 1 ≤ p.version → AreNeeded p taken → length taken ≤ 16
  pub all : (p : Progress) (events : List Event) (taken : List ℕ) → 1 ≤ p.version
      → ((rest : List ℕ) → capture (taken ++ rest) ≡ then_events events (capture_from p rest))
      → length taken ≡ min p.offset limit
