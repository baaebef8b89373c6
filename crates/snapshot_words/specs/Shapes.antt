-- Facts about the words of whole parts: they are the encoding of values within the bounds.
use Rattle.std.specs.Prelude.{◌≡◌, ◌<◌, ◌≤◌, ◌^◌, ℕ, List, length, slice_index}
use Rattle.gp0_words.specs.Next.{IsPending}
use Rattle.gp1_status.specs.Words.{words_of, registers_in, AreAllowed as RegisterBits}
use Rattle.gpu_core.specs.Kept.{IsJob, IsLinked, IsOpen}
use Rattle.list_dma.specs.Plans.{IsRun}
use Rattle.px_num.specs.Height.{IsHeight}
use Rattle.snapshot_words.specs.Values.{front_words, height_in, played_in, job_in, store_words, store_in, run_words}
use Rattle.snapshot_words.specs.Values.{run_in, pending_words, pending_in, load_in}

pub record IsFront (words : List ℕ) : Type 0 where
  pub spelled : front_words (height_in words) (played_in words) ≡ words
  pub height : IsHeight (height_in words)
  pub few : played_in words < 2 ^ 63

pub record IsRegisters (height : ℕ) (words : List ℕ) : Type 0 where
  pub long : length words ≡ 13
  pub bits : RegisterBits height words
  pub spelled : words_of (registers_in height words) ≡ words

pub record IsStore (height : ℕ) (words : List ℕ) : Type 0 where
  pub spelled : store_words (store_in words) ≡ words
  pub job : slice_index words 0 ≡ 1 → IsJob height (job_in words)
  pub bounds : IsOpen height (store_in words)

pub record IsPendingPart (height : ℕ) (words : List ℕ) : Type 0 where
  pub spelled : pending_words (pending_in words) (load_in words) ≡ words
  pub packet : slice_index words 0 ≡ 1 → 2 ≤ length words
  pub few : length words ≤ 13
  pub job : slice_index words 0 ≡ 2 → IsJob height (job_in words)
  pub bounds : IsPending (pending_in words)
  pub link : IsLinked (pending_in words) (load_in words)
  pub load : IsOpen height (load_in words)

pub record IsRunPart (words : List ℕ) : Type 0 where
  pub spelled : run_words (run_in words) ≡ words
  pub bounds : IsRun (run_in words)
