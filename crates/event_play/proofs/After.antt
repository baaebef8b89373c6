-- How many bytes are read after the last flush.
use Rattle.std.proofs.Common.{◌≡◌, ◌≤◌, ◌<◌, ◌⊎◌, ◌+◌, ◌++◌, ℕ, List, [], length, min, inl, inr, ap, arith}
use Rattle.std.proofs.Common.{length-append}
use Rattle.gpu_capture.specs.Capture.{capture, limit, then_events}
use Rattle.gpu_capture.specs.Reader.{AreNeeded as ReaderNeeds, IsStart, capture_from}
use Rattle.gpu_capture.specs.declared.event.Event.{Event}
use Rattle.gpu_capture.specs.declared.progress.Progress.{Progress}
use Rattle.gpu_capture.proofs.Taken.{few_at_first, few_at_once, taken_count}
use Rattle.event_loop.specs.Pausing.{most_after}

-- a reader at its start, or after the file header
abbrev pub IsReading : Progress → List ℕ → List Event → Type 0
IsReading p taken events = (IsStart p × (taken ≡ []) × (events ≡ [])) ⊎ (1 ≤ p.version)

-- If a reader is less than 4,096 bytes after the last flush, it is at most 4,112 bytes after it one step later.
pub few_after : (p : Progress) (events : List Event) (taken more flushed : List ℕ) (since : ℕ)
    → IsReading p taken events
    → ((rest : List ℕ) → capture (taken ++ rest) ≡ then_events events (capture_from p rest))
    → length flushed ≡ min since limit → p.offset < since + 4096 → ReaderNeeds p more
    → length (taken ++ more) ≤ length flushed + most_after
few_after p events taken more flushed since reading says since_is near needed = elim reading [
  | inl start ↦
      let all = length-append taken more in
      let none = ap length start.1 in
      let few = few_at_first p more start.0 needed in
      omega (arith, all, none, few)
  | inr known ↦
      let all = length-append taken more in
      let count = taken_count p events taken known says in
      let few = few_at_once p more known needed in
      omega (arith, all, count, few, since_is, near)
]
