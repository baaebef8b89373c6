-- Main memory as the list of its words (psx-spx, "DMA Channels", and "Memory Map" on its 2 MB).
use Rattle.std.specs.Prelude.{ℕ, List, ◌*◌, ◌/◌, ◌%◌, ◌^◌, slice_index, slice_set}
use Rattle.px_num.specs.Zeros.{zeros}

-- the number of words of memory: 2 MB
abbrev pub memory_words : ℕ
memory_words = 524288

-- memory at the start (our own rule: every word is 0)
unfoldable pub first_memory : List ℕ
first_memory = zeros memory_words

-- the index of the word at an address: bits 0, 1 and 21 and above are ignored (our own rule)
abbrev pub place_of : ℕ → ℕ
place_of address = address / 4 % 2 ^ 19

-- the address of the word, `address and 1FFFFCh`
abbrev pub cut : ℕ → ℕ
cut address = place_of address * 4

-- the word at an address
abbrev pub word_at : List ℕ → ℕ → ℕ
word_at ram address = slice_index ram (place_of address)

-- memory after one word is written
abbrev pub set : List ℕ → ℕ → ℕ → List ℕ
set ram address word = slice_set ram (place_of address) word
