-- A state without its two memories, its bounds, and its encoding (our own rule). A state has one encoding.
use Rattle.std.specs.Prelude.{◌≡◌, ◌<◌, ℕ, ◌*◌, ◌^◌, List, [], ◌∷◌, ◌++◌, Option, codes, flat_map, length}
use Rattle.gp0_words.specs.Next.{IsPending}
use Rattle.gp0_words.specs.declared.pending.Pending.{Pending}
use Rattle.gp1_status.specs.Words.{words_of, AreAllowed as RegisterBits}
use Rattle.gpu_capture.specs.Whole.{AreWords}
use Rattle.gpu_capture.specs.Written.{word_bytes}
use Rattle.gpu_core.specs.Kept.{IsLinked, IsOpen}
use Rattle.list_dma.specs.Plans.{IsRun}
use Rattle.px_num.specs.Height.{IsHeight}
use Rattle.vram_copy.specs.declared.transfer.Transfer.{Transfer}
use Rattle.snapshot_words.specs.Values.{front_words, pending_words, store_words, run_words, cell_words}
use Rattle.snapshot_words.specs.declared.outline.Outline.{Outline}

-- the first eight bytes of a snapshot
abbrev pub snapshot_head : List ℕ
snapshot_head = codes "PSXGPUS1"

-- what is pending, and the open load that belongs to it
pub record ArePending (height : ℕ) (at_splitter : Pending) (job : Option Transfer) : Type 0 where
  pub bounds : IsPending at_splitter
  pub link : IsLinked at_splitter job
  pub load : IsOpen height job

-- the bounds of a state without its memories
pub record IsOutline (o : Outline) : Type 0 where
  pub few : o.played < 2 ^ 63
  pub height : IsHeight o.regs.height
  pub bits : RegisterBits o.regs.height (words_of o.regs)
  pub pending : IsPending o.pending
  pub link : IsLinked o.pending o.load
  pub load : IsOpen o.regs.height o.load
  pub store : IsOpen o.regs.height o.store
  pub run : IsRun o.run

-- Its words: the height and the number of events played, the registers, what is pending with its load, the open store,
-- and the running transfer.
unfoldable pub outline_words : Outline → List ℕ
outline_words o =
    front_words o.regs.height o.played ++ words_of o.regs ++ pending_words o.pending o.load ++ store_words o.store
    ++ run_words o.run

abbrev pub bytes_of : List ℕ → List ℕ
bytes_of words = flat_map word_bytes words

-- the encoding of a state after the file header; no proof computes these bytes
unfoldable pub snap_bytes : Outline → (m ram : List ℕ) → List ℕ
snap_bytes o m ram = bytes_of (outline_words o) ++ bytes_of (cell_words m) ++ bytes_of ram

abbrev pub AreCells : List ℕ → Type 0
AreCells [] = Unit {0}
AreCells (cell ∷ cells) = (cell < 2 ^ 16) × AreCells cells

-- memories that fit an outline
pub record AreMemories (o : Outline) (m ram : List ℕ) : Type 0 where
  pub cells : length m ≡ 1024 * o.regs.height
  pub each : AreCells m
  pub long : length ram ≡ 524288
  pub words : AreWords ram
