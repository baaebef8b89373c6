-- Data words of the open load that are fed at once.
use Rattle.std.specs.Prelude.{◌≤◌, ℕ, ◌*◌, List, Option, Some, None, length, nat_lt, if◌then◌else◌}
use Rattle.vram_copy.specs.Words.{advanced_by, words_left, pixels_in, loaded_words}
use Rattle.vram_copy.specs.declared.transfer.Transfer.{Transfer}
use Rattle.gpu_core.specs.Machine.{Parts}

-- a transfer while it has a cell left
abbrev pub open_still : Transfer → Option Transfer
open_still job = if nat_lt job.at (job.w * job.h) then Some job else None

-- the effect of data words of a load, one after another; none if no load is open
abbrev pub with_words : Parts → Option Transfer → List ℕ → Parts
with_words p None words = p
with_words p (Some job) words = record p {
  m = loaded_words p.m p.regs.mask job words;
  load = open_still (advanced_by job (length words));
}

-- an open load needs at least `count` words
abbrev pub Wants : Option Transfer → (count : ℕ) → Type 0
Wants None count = Unit {0}
Wants (Some job) count = count ≤ words_left job

-- the cells of these words
abbrev pub pixels_in_load : Option Transfer → (count : ℕ) → ℕ
pixels_in_load None count = 0
pixels_in_load (Some job) count = pixels_in job count
