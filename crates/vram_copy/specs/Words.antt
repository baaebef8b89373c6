-- Rectangles that are loaded or stored by words of two pixels (psx-spx, GP0(A0h) "Copy Rectangle (CPU to VRAM)"
-- and GP0(C0h) "Copy Rectangle (VRAM to CPU)").
use Rattle.std.specs.Prelude.{ℕ, List, [], ◌∷◌, Option, Some, None, ◌+◌, ◌-◌, ◌*◌, ◌/◌, ◌%◌, ◌^◌, nat_lt, if◌then◌else◌}
use Rattle.std.specs.Prelude.{min, slice_index}
use Rattle.px_num.specs.Fold.{each_below}
use Rattle.px_num.specs.declared.shape.Cell.{Cell}
use Rattle.vram_store.specs.Vram.{height_of, at}
use Rattle.vram_store.specs.Plot.{plot}
use Rattle.vram_copy.specs.declared.transfer.Transfer.{Transfer}

-- the cell of pixel number i, counted row by row; X wraps at 1024 and Y at the height
abbrev pub pixel_cell : ℕ → Transfer → ℕ → Cell
pixel_cell height job i = record { x = (job.x + i % job.w) % 1024; y = (job.y + i / job.w) % height }

-- the number of pixels of the next word
abbrev pub pixels_next : Transfer → ℕ
pixels_next job = min 2 (job.w * job.h - job.at)

-- the number of pixels of the next n words
abbrev pub pixels_in : Transfer → ℕ → ℕ
pixels_in job n = min (2 * n) (job.w * job.h - job.at)

-- the transfer after its next word
abbrev pub advanced : Transfer → Transfer
advanced job = record { x = job.x; y = job.y; w = job.w; h = job.h; at = job.at + pixels_next job }

-- the transfer after its next n words
abbrev pub advanced_by : Transfer → ℕ → Transfer
advanced_by job n = record { x = job.x; y = job.y; w = job.w; h = job.h; at = job.at + pixels_in job n }

-- the number of words that the transfer still needs
abbrev pub words_left : Transfer → ℕ
words_left job = (job.w * job.h - job.at + 1) / 2

-- the transfer after its next word if it is not complete then, else none
abbrev pub after_word : Transfer → Option Transfer
after_word job = if nat_lt (job.at + pixels_next job) (job.w * job.h) then Some (advanced job) else None

-- half number i of a word, the low half first
abbrev pub half_of : ℕ → ℕ → ℕ
half_of word i = word / 2 ^ (16 * i) % 2 ^ 16

-- pixel number i of the words
abbrev pub pixel_of : List ℕ → ℕ → ℕ
pixel_of words i = half_of (slice_index words (i / 2)) (i % 2)

-- a transfer with the words that follow
pub record Load : Type 0 where
  pub job : Transfer
  pub words : List ℕ

-- the first n pixels of the words are plotted, one after another
abbrev pub loaded : (height : ℕ) → List ℕ → ℕ → Load → ℕ → List ℕ
loaded height m mask load n =
    each_below
    (λ i cells. let cell = pixel_cell height load.job (load.job.at + i) in
    plot cells mask cell.x cell.y (pixel_of load.words i)) n m

-- the pixels of a word are plotted; the spare half of an odd count is dropped
unfoldable pub loaded_word : List ℕ → ℕ → Transfer → ℕ → List ℕ
loaded_word m mask job word = loaded (height_of m) m mask (record { job = job; words = word ∷ [] }) (pixels_next job)

-- words are plotted one after another
abbrev pub loaded_words : List ℕ → ℕ → Transfer → List ℕ → List ℕ
loaded_words m mask job [] = m
loaded_words m mask job (word ∷ words) = loaded_words (loaded_word m mask job word) mask (advanced job) words

-- the next n pixels as a word, the first in the low half
abbrev pub word_of : ℕ → List ℕ → Transfer → ℕ → ℕ
word_of height m job n =
    each_below
    (λ i word. let cell = pixel_cell height job (job.at + i) in word + at m cell.x cell.y * 2 ^ (16 * i)) n 0

-- the next pixels as a word; the spare half of an odd count is 0
unfoldable pub stored_word : List ℕ → Transfer → ℕ
stored_word m job = word_of (height_of m) m job (pixels_next job)
