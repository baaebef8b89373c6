-- The values of a state as words, and the values of the words of whole parts (our own rule).
use Rattle.std.specs.Prelude.{ℕ, ◌+◌, ◌*◌, ◌/◌, ◌%◌, ◌^◌, List, [], ◌∷◌, Option, None, Some, ◌==◌}
use Rattle.std.specs.Prelude.{if◌then◌else◌, length, slice_index, drop}
use Rattle.gp0_words.specs.declared.pending.Pending.{Pending}
use Rattle.gp0_words.specs.declared.pending.Pending.TheVariants as pending
use Rattle.gp1_status.specs.Registers.{bit, bit_of}
use Rattle.list_dma.specs.declared.run.Run.{Run}
use Rattle.list_dma.specs.declared.run.Run.TheVariants as run
use Rattle.vram_copy.specs.Words.{words_left}
use Rattle.vram_copy.specs.declared.transfer.Transfer.{Transfer}

-- ---- values as words

abbrev pub front_words : (height played : ℕ) → List ℕ
front_words height played = height ∷ played % 2 ^ 32 ∷ played / 2 ^ 32 ∷ []

abbrev pub job_words : Transfer → List ℕ
job_words job = job.x ∷ job.y ∷ job.w ∷ job.h ∷ job.at ∷ []

-- 0, or 1 and the transfer
abbrev pub store_words : Option Transfer → List ℕ
store_words None = 0 ∷ []
store_words (Some job) = 1 ∷ job_words job

-- if data words are pending, the open load, which decides how many
abbrev pub load_words : Option Transfer → List ℕ
load_words None = []
load_words (Some job) = job_words job

abbrev pub half_words : Option ℕ → List ℕ
half_words None = 0 ∷ []
half_words (Some half) = 1 ∷ half ∷ []

abbrev pub pending_words : Pending → (load : Option Transfer) → List ℕ
pending_words pending.Idle load = 0 ∷ []
pending_words (pending.Packet words) load = 1 ∷ length words ∷ words
pending_words (pending.Pixels left) load = 2 ∷ load_words load
pending_words (pending.Poly command color vertex half) load = 3 ∷ command ∷ color ∷ vertex ∷ half_words half

abbrev pub run_words : Run → List ℕ
run_words run.Idle = 0 ∷ []
run_words (run.Words at left block back to_ram) =
    1 ∷ at ∷ left ∷ block ∷ (bit_of back + bit_of to_ram * 2) ∷ []
run_words (run.List node) = 2 ∷ node ∷ []

-- two cells in each word, the first in the low half
abbrev pub cell_words : List ℕ → List ℕ
cell_words [] = []
cell_words (low ∷ []) = low ∷ []
cell_words (low ∷ high ∷ cells) = (low + high * 2 ^ 16) ∷ cell_words cells

-- ---- words as values

abbrev pub height_in : List ℕ → ℕ
height_in words = slice_index words 0

abbrev pub played_in : List ℕ → ℕ
played_in words = slice_index words 1 + slice_index words 2 * 2 ^ 32

-- the transfer in words 1 to 5 of a part
abbrev pub job_in : List ℕ → Transfer
job_in words =
    record {
      x = slice_index words 1;
      y = slice_index words 2;
      w = slice_index words 3;
      h = slice_index words 4;
      at = slice_index words 5;
    }

abbrev pub store_in : List ℕ → Option Transfer
store_in words = if slice_index words 0 == 1 then Some (job_in words) else None

-- the load that is open if data words are pending
abbrev pub load_in : List ℕ → Option Transfer
load_in words = if slice_index words 0 == 2 then Some (job_in words) else None

abbrev pub half_in : List ℕ → Option ℕ
half_in words = if slice_index words 4 == 1 then Some (slice_index words 5) else None

abbrev pub pending_in : List ℕ → Pending
pending_in words =
    if slice_index words 0 == 0 then pending.Idle else
    (if slice_index words 0 == 1 then pending.Packet (drop 2 words) else
    (if slice_index words 0 == 2 then pending.Pixels (words_left (job_in words)) else
    pending.Poly (slice_index words 1) (slice_index words 2) (slice_index words 3) (half_in words)))

abbrev pub run_in : List ℕ → Run
run_in words =
    if slice_index words 0 == 0 then run.Idle else
    (if slice_index words 0 == 1 then
    run.Words (slice_index words 1) (slice_index words 2) (slice_index words 3)
    (bit (slice_index words 4) 0 == 1) (bit (slice_index words 4) 1 == 1)
    else run.List (slice_index words 1))

abbrev pub cells_in : List ℕ → List ℕ
cells_in [] = []
cells_in (word ∷ words) = word % 2 ^ 16 ∷ word / 2 ^ 16 ∷ cells_in words
