-- Bulk reads of words of a Gp0 record. Each word is one event.
use Rattle.std.specs.Prelude.{◌≡◌, ◌<◌, ◌≤◌, ℕ, List, [], ◌++◌, ◌+◌, ◌-◌, ◌*◌, nat_lt, Option, length, map, take}
use Rattle.std.specs.Prelude.{if◌then◌else◌}
use Rattle.dev_io.specs.Device.{prepended}
use Rattle.gpu_capture.specs.Capture.{ended, then_events, limit}
use Rattle.gpu_capture.specs.Reader.{ReaderInput, IsProgress, StopsAt, capture_from, reader_input, work_left}
use Rattle.gpu_capture.specs.declared.event.Event.{Event}
use Rattle.gpu_capture.specs.declared.event.Event.TheVariants.{Gp0}
use Rattle.gpu_capture.specs.declared.event.Stop.{Stop}
use Rattle.gpu_capture.specs.declared.event.Stop.TheVariants.{Truncated}
use Rattle.gpu_capture.specs.declared.progress.Progress.{Progress}
use Rattle.gpu_capture.specs.declared.record.Expected.{Expected}
use Rattle.gpu_capture.specs.declared.record.Expected.TheVariants as expected

-- the events of words that are written to GP0
abbrev pub word_events : List ℕ → List Event
word_events words = map Gp0 words

-- these bytes give fewer than these words, and are then truncated
pub record IsCutWithin (old : Progress) (words bytes : List ℕ) : Type 0 where
  pub count : ℕ
  pub fewer : count < length words
  pub version : ℕ
  pub byte : ℕ
  pub is : capture_from old bytes
      ≡ then_events (word_events (take count words)) (ended version (Truncated byte) [])

-- Words were read, each of them an event. Their bytes and any rest mean these events, and then the meaning of the rest
-- after the new state. All bytes are needed: any proper prefix gives fewer words. Each word has four bytes.
pub record TakesWords (before now : ReaderInput) (words : List ℕ) : Type 0 where
  pub taken : List ℕ
  pub bytes : before.left ≡ prepended taken now.left
  pub needed : (part more : List ℕ) → taken ≡ part ++ more → (more ≡ [] → ⊥) → IsCutWithin before.progress words part
  pub says : (rest : List ℕ)
      → capture_from before.progress (taken ++ rest) ≡ then_events (word_events words) (capture_from now.progress rest)
  pub offset : now.progress.offset ≡ before.progress.offset + 4 * length words

-- words were read, and then the reader stopped
pub record StopsAfter (before now : ReaderInput) (words : List ℕ) (stop : Stop) : Type 0 where
  pub left : Option (List ℕ)
  pub takes : TakesWords before (reader_input now.progress left) words
  pub stops : StopsAt (reader_input now.progress left) now stop

-- the version stays, and no more events and words remain than before
pub record GoesOn (old new : Progress) : Type 0 where
  pub version : new.version ≡ old.version
  pub forward : work_left new ≤ work_left old

-- the same, and the new state is within its bounds
pub record StaysWithin (old new : Progress) : Type 0 where
  pub bounds : IsProgress new
  pub goes_on : GoesOn old new

-- how many words are left in an open Gp0 record
abbrev pub gp0_left : Expected → ℕ
gp0_left (expected.Gp0 left) = left
gp0_left other = 0

-- `count` words may be read at once: the record has that many left, and each begins below the limit
pub record MayTake (p : Progress) (count : ℕ) : Type 0 where
  pub started : 1 ≤ p.version
  pub none : p.left ≡ 0
  pub open_record : 0 < gp0_left p.expected
  pub few : count ≤ gp0_left p.expected
  pub below_limit : p.offset + 4 * count ≤ limit

-- the same, and a block can hold that many words
pub record CanTake (p : Progress) (count : ℕ) : Type 0 where
  pub bounds : IsProgress p
  pub may : MayTake p count
  pub room : count ≤ 512

-- what follows the next `count` of the `left` words
abbrev pub words_expected : (left count : ℕ) → Expected
words_expected left count = if nat_lt count left then expected.Gp0 (left - count) else expected.Tag

-- the reader state after the next `count` words of the open record
abbrev pub progress_after_words : Progress → (count : ℕ) → Progress
progress_after_words p count = record {
  version = p.version;
  offset = p.offset + 4 * count;
  expected = words_expected (gp0_left p.expected) count;
  repeated = p.repeated;
  left = 0;
}
